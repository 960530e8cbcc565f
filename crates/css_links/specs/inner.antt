-- Definitions that proofs alone need: no public clause cites them.
pub mod Spans
pub mod Quiet
pub mod Lanes
