pub mod Keeping
pub mod Cutting
