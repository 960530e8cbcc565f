pub mod Bytes
pub mod Escapes
pub mod Places
pub mod References
pub mod Scanning
pub mod Rewriting
pub mod inner
