pub mod Digests
pub mod KindsOfFaults
pub mod Digesting
pub mod inner
pub mod Sinking
