-- Definitions that proofs alone need: no public clause cites them.
pub mod Fields
pub mod Kept
