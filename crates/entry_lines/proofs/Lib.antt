pub mod EscapeLaws
pub mod FieldLaws
pub mod LineLaws
pub mod WholeLaws
