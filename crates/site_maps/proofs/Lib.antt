pub mod FormLaws
pub mod MapLaws
pub mod ReadingLaws
pub mod MapReads
pub mod SteadyLaws
pub mod StandardFacts
