pub mod BodyLaws
pub mod Fronts
pub mod LifeLaws
pub mod RunLaws
pub mod SharedLaws
