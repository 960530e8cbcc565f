-- Sites that are read from a record, as contracts see them.
use Rattle.std.specs.Prelude.{List}
use Rattle.kept_bodies.specs.Bodies.{BodyValue}
use Rattle.address.specs.Address.{AddressText, OriginText}
use Rattle.robots_rules.specs.Access.{RuleSetValue}
use Rattle.fetcher.specs.declared.answer.Answer.{Answer}
use Rattle.fetcher.specs.declared.fetcher.Ask.{Ask}
use Rattle.answer_notes.specs.declared.noted.Noted.{Noted}

-- the answers and the rule sets that the record states, each in its order, the notes that are kept of it, and what was asked
pub record RecordValue : Type 0 where
  pub answers : List (AddressText × Answer BodyValue)
  pub rules : List (OriginText × RuleSetValue)
  pub notes : List Noted
  pub asks : List Ask
