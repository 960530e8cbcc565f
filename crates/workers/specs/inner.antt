-- Definitions that proofs alone need: no public clause cites them.
pub mod Turns
pub mod Lefts
pub mod Notes
pub mod Seats
pub mod Apart
pub mod Noted
pub mod Takers
pub mod Concluded
pub mod Answered
pub mod InOrder
