pub mod Texts
pub mod Sayings
pub mod Heads
pub mod inner
