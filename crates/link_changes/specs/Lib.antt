pub mod Leading
pub mod Changing
