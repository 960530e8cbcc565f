pub mod Lines
pub mod Jars
pub mod Matches
pub mod Faults
pub mod inner
