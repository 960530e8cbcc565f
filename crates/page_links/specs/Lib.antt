pub mod Places
pub mod Unclear
pub mod Rewriting
