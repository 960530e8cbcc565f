-- What a recording fetcher notes of its asks: what is noted says the answer given.
use Rattle.std.specs.Prelude.{◌≡◌, List, [], ◌∷◌, ◌++◌}
use Rattle.address.specs.Address.{AddressText, OriginText}
use Rattle.robots_rules.specs.Access.{RuleSetValue}
use Rattle.kept_bodies.specs.Bodies.{BodyValue}
use Rattle.fetcher.specs.declared.answer.Answer.{Answer}
use Rattle.answer_notes.specs.Received.{received_outcome, received_body}
use Rattle.answer_notes.specs.HopChains.{HopValue, rules_of_hops}
use Rattle.answer_notes.specs.declared.received.Received.{Received}
use Rattle.answer_notes.specs.declared.noted.Noted.{Noted}
use Rattle.answer_notes.specs.declared.noted.Noted.TheVariants.{Page, Chain}
use Rattle.html_links.specs.declared.rules.LinkRules.{LinkRules}

-- there is one more note, of this address, and it says this answer
abbrev pub NotesPage : LinkRules → AddressText → Answer BodyValue → List Noted → List Noted → Type 0
NotesPage links at answer old new =
    (received : Received) × (new ≡ old ++ Page at received ∷ []) × (answer.outcome ≡ received_outcome links at received) × (answer.body ≡ received_body received)

-- there is one more note, of this origin, and it says these rules
abbrev pub NotesChain : OriginText → RuleSetValue → List Noted → List Noted → Type 0
NotesChain of rules old new =
    (hops : List HopValue) × (new ≡ old ++ Chain (record { of = of; hops = hops }) ∷ []) × (rules ≡ rules_of_hops hops)
