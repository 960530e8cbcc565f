pub mod ChainLemmas
pub mod ReceivedLemmas
pub mod MeaningLaws
pub mod KeptLemmas
pub mod ExitLemmas
pub mod GivenUpLemmas
pub mod UnaskedLaws
