pub mod NameLaws
pub mod LookupLaws
pub mod PageLaws
