pub mod ActLaws
