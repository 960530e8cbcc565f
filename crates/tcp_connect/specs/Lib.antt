pub mod Connecting
pub mod Losses
pub mod Standing
