pub mod Expressions
pub mod inner
