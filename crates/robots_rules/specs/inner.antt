-- Definitions that proofs alone need: no public clause cites them.
pub mod Octets
pub mod RuleView
pub mod LineView
pub mod AudienceView
pub mod NormalTextView
pub mod DelayTally
