pub mod HopLemmas
pub mod StandardFacts
