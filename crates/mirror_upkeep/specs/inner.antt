-- Definitions that proofs alone need: no public clause cites them.
pub mod Lent
pub mod NamedPlaces
pub mod Reading
pub mod Taking
