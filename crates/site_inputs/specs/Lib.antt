pub mod Fields
pub mod Faults
pub mod Names
pub mod Tables
pub mod inner
