-- Definitions that proofs alone need: no public clause cites them.
pub mod Steps
pub mod Exchanges
pub mod Waits
