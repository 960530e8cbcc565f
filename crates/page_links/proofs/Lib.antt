pub mod Cutting
pub mod Placing
pub mod Closing
