pub mod Cuts
pub mod Entries
pub mod Indexes
pub mod inner
