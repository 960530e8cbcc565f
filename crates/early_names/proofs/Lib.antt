pub mod ClaimLaws
pub mod RuleLaws
