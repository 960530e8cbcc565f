pub mod EarlyParts
