-- What a text says, and what earlier answers are after it was taken.
use Rattle.std.specs.Prelude.{◌≡◌, List, Option, Some, bytes_eq}
use Rattle.address.specs.Address.{AddressText, OriginText, IsAddress}
use Rattle.fetcher.specs.declared.outcome.Outcome.{Outcome}
use Rattle.answer_notes.specs.HopChains.{ChainValue}
use Rattle.answer_notes.specs.declared.noted.Noted.TheVariants.{Chain}
use Rattle.indexmap.specs.IndexMap.{insert_entry}
use Rattle.site_records.specs.WrittenEntries.{IsNote}
use Rattle.earlier_answers.specs.Texts.{Text, IsOutcome, answer_text, chain_text}

-- the answers that are kept, one of each address, and the chains, one of each origin
pub record EarlierValue : Type 0 where
  pub answers : List (AddressText × Outcome)
  pub chains : List (OriginText × ChainValue)

-- what a text says
pub data Saying : Type 0 where
  -- the address has this answer
  answered : AddressText → Outcome → Saying
  -- this was received for the robots file of an origin
  chained : ChainValue → Saying

-- the text that says it, if there is one
abbrev pub saying_text : Saying → Option Text
saying_text (answered at outcome) = answer_text at outcome
saying_text (chained c) = chain_text c

-- it may be said: its addresses are addresses, its status one, and the chain one of responses from the origin's robots file on
abbrev pub IsSaying : Saying → Type 0
IsSaying (answered at outcome) = IsAddress at × IsOutcome outcome
IsSaying (chained c) = IsNote (Chain c)

-- the text says it
abbrev pub Says : Text → Saying → Type 0
Says text s = IsSaying s × (saying_text s ≡ Some text)

-- the answers with it, in the place of an earlier one of the same address or origin
abbrev pub with_saying : EarlierValue → Saying → EarlierValue
with_saying earlier (answered at outcome) = record earlier { answers = insert_entry bytes_eq earlier.answers at outcome }
with_saying earlier (chained c) = record earlier { chains = insert_entry bytes_eq earlier.chains c.of c }

-- the text was taken: what it says is said now
abbrev pub IsTaken : EarlierValue → Text → EarlierValue → Type 0
IsTaken old text new = (s : Saying) × Says text s × (new ≡ with_saying old s)
