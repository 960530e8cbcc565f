pub mod DigestLemmas
pub mod LinkLemmas
pub mod KindLaws
mod StandardFacts
