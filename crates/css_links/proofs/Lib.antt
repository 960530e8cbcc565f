pub mod Feeding
pub mod Searching
pub mod Vectors
pub mod Passing
pub mod Writing
pub mod Moving
pub mod Keeping
pub mod Cutting
pub mod Taking
mod StandardFacts
