pub mod StandardFacts
pub mod StandingLaws
pub mod PooledLaws
