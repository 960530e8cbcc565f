-- What proofs alone need.
pub mod Lines
