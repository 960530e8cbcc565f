pub mod Escapes
pub mod Fields
pub mod Lines
