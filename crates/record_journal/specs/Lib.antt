pub mod Handed
pub mod inner
