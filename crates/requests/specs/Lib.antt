pub mod Lines
pub mod Fields
pub mod Conditions
pub mod Requests
pub mod Proxies
