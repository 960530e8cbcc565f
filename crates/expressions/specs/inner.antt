-- Definitions that proofs alone need: no public clause cites them.
pub mod Order
pub mod Accepting
pub mod Needles
pub mod Tables
