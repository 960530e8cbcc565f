pub mod Acts
pub mod Moments
