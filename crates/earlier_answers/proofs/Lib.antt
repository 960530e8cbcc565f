pub mod ChainLaws
mod FieldLaws
mod KeptLaws
mod TextLaws
