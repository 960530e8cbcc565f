pub mod Report
pub mod Entries
pub mod Named
pub mod ExitStatus
pub mod Trace
pub mod inner
