pub mod Mirrors
pub mod Anew
pub mod inner
