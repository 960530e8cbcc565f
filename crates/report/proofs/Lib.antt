pub mod ListLaws
pub mod TableLaws
pub mod NameLaws
pub mod HarvestLaws
pub mod NamedLaws
pub mod StatusLaws
pub mod SoleLaws
mod StandardFacts
