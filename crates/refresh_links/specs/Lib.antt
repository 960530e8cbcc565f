pub mod Refresh
pub mod Rewriting
pub mod Reading
