pub mod Marks
pub mod Leads
pub mod Again
pub mod Writing
