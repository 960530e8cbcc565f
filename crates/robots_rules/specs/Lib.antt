pub mod Octets
pub mod Patterns
pub mod Access
pub mod Lines
pub mod Groups
pub mod RuleSetView
pub mod inner
pub mod Delays
