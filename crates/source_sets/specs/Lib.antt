pub mod Sets
pub mod Rewriting
pub mod Reading
