pub mod Accepting
pub mod Ordering
pub mod Compiling
pub mod Tables
