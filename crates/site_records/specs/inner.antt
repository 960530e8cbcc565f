-- Definitions that proofs alone need: no public clause cites them.
pub mod Said
pub mod Readings
pub mod RecordDrafts
pub mod RecordNotes
