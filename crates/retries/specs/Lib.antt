pub mod Delays
pub mod Keeping
pub mod Tries
pub mod Worth
