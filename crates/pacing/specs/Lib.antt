pub mod Flows
pub mod Manners
pub mod Rates
pub mod Retries
pub mod Sizes
pub mod Spans
pub mod Turns
