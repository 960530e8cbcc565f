pub mod CutLaws
pub mod EntryLaws
pub mod FieldLaws
pub mod IndexLaws
pub mod ReadLaws
pub mod ShortLaws
pub mod StepLaws
pub mod TextLaws
