pub mod FaultLaws
pub mod StandardFacts
