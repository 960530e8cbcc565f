-- Definitions that proofs alone need: no public clause cites them.
pub mod Readings
pub mod Answers
