pub mod Lists
pub mod Faults
pub mod Words
pub mod inner
