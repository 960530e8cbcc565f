pub mod Reasons
pub mod Lines
pub mod Rejections
pub mod inner
