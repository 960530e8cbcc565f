mod HopLemmas
mod StandardFacts
pub mod TryLaws
