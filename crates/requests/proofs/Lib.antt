pub mod TextLemmas
pub mod LineLemmas
pub mod CutLemmas
pub mod FieldsLemmas
pub mod SendingLemmas
pub mod JarLemmas
pub mod ConditionLemmas
