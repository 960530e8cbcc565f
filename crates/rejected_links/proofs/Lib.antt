pub mod ListLaws
pub mod LineOrder
pub mod LineLaws
pub mod PathLaws
pub mod FoundLaws
pub mod LogLaws
