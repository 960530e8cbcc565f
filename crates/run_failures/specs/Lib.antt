pub mod Losses
pub mod Files
pub mod Unasked
