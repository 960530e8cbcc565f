pub mod Relative
pub mod inner
