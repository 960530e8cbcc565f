pub mod Claims
pub mod LoneNames
pub mod inner
