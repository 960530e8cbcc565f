pub mod FaultWords
pub mod Outcomes
pub mod Logs
pub mod Sites
pub mod Statuses
