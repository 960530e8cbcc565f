pub mod LatestLaws
pub mod TakingLaws
pub mod ReadingLaws
pub mod ZeroLaws
pub mod NameLaws
pub mod LeavingLaws
pub mod ByNameLaws
