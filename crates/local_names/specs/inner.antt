-- Definitions that proofs alone need: no public clause cites them.
pub mod LocalNames
pub mod Taken
pub mod Units
