-- Definitions that proofs alone need: no public clause cites them.
pub mod Waits
pub mod TableCalls
pub mod Holdings
pub mod Counters
pub mod Views
pub mod Readers
pub mod Agendas
