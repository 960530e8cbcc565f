pub mod Depths
pub mod Offers
