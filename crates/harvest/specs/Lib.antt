pub mod Harvests
pub mod Entries
pub mod Pages
pub mod Gathered
pub mod Shown
pub mod inner
