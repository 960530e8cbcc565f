pub mod Splits
pub mod NameLaws
