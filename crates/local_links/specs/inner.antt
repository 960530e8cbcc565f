-- What the code says of its parts.
pub mod Climbs
