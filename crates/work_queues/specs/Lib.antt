pub mod Queues
pub mod Pools
pub mod Tasks
pub mod Lists
pub mod inner
