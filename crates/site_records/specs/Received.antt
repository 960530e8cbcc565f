-- What a record says without what failed.
use Rattle.std.specs.Prelude.{Bool, true, false, not, List, ◌∷◌, []}
use Rattle.std.specs.List.{filter, list_any}
use Rattle.kept_bodies.specs.Bodies.{BodyValue}
use Rattle.address.specs.Address.{AddressText, OriginText}
use Rattle.robots_rules.specs.Access.{RuleSetValue}
use Rattle.fetcher.specs.Outcomes.{is_fault}
use Rattle.fetcher.specs.declared.answer.Answer.{Answer}
use Rattle.answer_notes.specs.HopChains.{HopValue}
use Rattle.answer_notes.specs.declared.received.Received.{Received}
use Rattle.answer_notes.specs.declared.received.Received.TheVariants.{Whole, Fault}
use Rattle.site_records.specs.Entries.{Entry, answered, ruled, chained}
use Rattle.site_records.specs.Records.{answers_of, rules_of}

-- no response was received
abbrev pub is_lost : Received → Bool
is_lost (Whole response) = false
is_lost (Fault kind) = true

-- none was received for one of these hops, which is the last of its chain then
abbrev pub has_lost : List HopValue → Bool
has_lost hops = list_any (λ (hop : HopValue). is_lost hop.1) hops

-- No response was received for the address, or for the robots file of the origin or the last of the redirects after it. Version 1 says of
-- such an origin that nothing is allowed there.
abbrev pub has_failed : Entry → Bool
has_failed (answered at a) = is_fault a.outcome
has_failed (ruled of r) = r.closed
has_failed (chained of hops) = has_lost hops

-- the entries that haven't failed, in their order
abbrev pub received_of : List Entry → List Entry
received_of said = filter (λ e. not (has_failed e)) said

-- the entries that are taken of a record: all, or without those that failed
abbrev pub taken_of : Bool → List Entry → List Entry
taken_of true said = said
taken_of false said = received_of said

-- what an entry states, and whether it failed
pub record Stating : Type 0 where
  pub answers : List (AddressText × Answer BodyValue)
  pub rules : List (OriginText × RuleSetValue)
  pub failed : Bool

abbrev pub stating : Entry → Stating
stating e = record { answers = answers_of (e ∷ []); rules = rules_of (e ∷ []); failed = has_failed e }
