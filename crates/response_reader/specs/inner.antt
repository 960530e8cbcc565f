-- Definitions that proofs alone need: no public clause cites them.
pub mod Memory
pub mod Wire
pub mod Fields
pub mod Elements
pub mod Response
pub mod Reads
pub mod Held
pub mod Fills
pub mod ChunkStage
pub mod HeadStage
pub mod Passes
pub mod HeadsStage
pub mod Kinds
pub mod Laws
pub mod Refusals
pub mod Request
