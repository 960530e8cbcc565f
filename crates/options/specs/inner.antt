-- Definitions that proofs alone need: no public clause cites them.
pub mod Table
pub mod Meant
pub mod Said
pub mod Line
pub mod Order
pub mod Advice
pub mod Sought
