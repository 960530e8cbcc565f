pub mod OctetsLemmas
pub mod LinesLemmas
pub mod SecondsLemmas
pub mod DelayLemmas
pub mod PieceLemmas
pub mod AccessLemmas
pub mod KeptLemmas
pub mod GroupLemmas
mod StandardFacts
