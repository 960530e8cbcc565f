pub mod BodyRuns
pub mod Indexes
pub mod Lives
pub mod Parts
pub mod Recoveries
pub mod Runs
