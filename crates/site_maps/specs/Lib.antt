pub mod RuleLines
pub mod Lines
pub mod Maps
pub mod MapSites
pub mod inner
