pub mod OrderLaws
pub mod PlaceLaws
pub mod GatherLaws
