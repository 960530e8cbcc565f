pub mod FlowLaws
mod SpanLemmas
mod StandardFacts
pub mod TurnLaws
