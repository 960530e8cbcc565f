pub mod Chains
pub mod Notes
pub mod Fetching
pub mod Meanings
pub mod inner
