pub mod Rules
pub mod PlainNames
pub mod Endings
pub mod Names
pub mod LocalNames
pub mod Served
pub mod inner
