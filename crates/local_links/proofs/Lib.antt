pub mod RelativeLaws
pub mod Going
