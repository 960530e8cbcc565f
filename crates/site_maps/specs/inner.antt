-- Definitions that proofs alone need: no public clause cites them.
pub mod Said
pub mod Known
pub mod Readings
