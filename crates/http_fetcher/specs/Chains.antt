-- The rules of an origin by the answers of its robots file and of the redirects after it (RFC 9309, section 2.3.1).
use Rattle.std.specs.Prelude.{◌≡◌, ◌<◌, ◌⊎◌, ⊤, ℕ, zero, suc, List, length}
use Rattle.address.specs.Address.{AddressText, OriginText}
use Rattle.response_reader.specs.Wire.{counted}
use Rattle.robots_rules.specs.Access.{RuleSetValue}
use Rattle.kept_bodies.specs.Bodies.{BodyValue}
use Rattle.fetcher.specs.declared.outcome.Outcome.{Outcome}
use Rattle.fetcher.specs.declared.outcome.Outcome.TheVariants.{Page, Moved, Leaf, Fault}
use Rattle.answer_notes.specs.RobotsAnswers.{all_allowed, none_allowed, rules_by_status}
use Rattle.answer_notes.specs.HopChains.{HopValue, IsAdmitted, rules_of_hops}
use Rattle.http_fetcher.specs.declared.chain.Hop.{Hop}
use Rattle.http_fetcher.specs.declared.chain.Hop.TheVariants.{Next, Last}

-- the rules by the last answer: a redirect that isn't followed allows everything, a fault nothing
abbrev pub rules_by : Outcome → List ℕ → RuleSetValue
rules_by (Moved status target) file = all_allowed
rules_by (Fault kind) file = none_allowed
rules_by (Page status edges) file = rules_by_status status file
rules_by (Leaf status) file = rules_by_status status file

-- the answer is a redirect to this address
abbrev pub LeadsTo : Outcome → AddressText → Type 0
LeadsTo (Moved status target) next = next ≡ target
LeadsTo other next = ⊥

-- the answer isn't followed if this many redirects may still be
abbrev pub IsLast : Outcome → ℕ → Type 0
IsLast (Moved status target) left = left ≡ 0
IsLast other left = ⊤

-- an answer says this if so many redirects may still be followed: a redirect leads on, any other answer, or one redirect too many, decides
abbrev pub SaysHop : Outcome → List ℕ → ℕ → Hop → Type 0
SaysHop outcome file left (Next next) = (0 < left) × LeadsTo outcome next
SaysHop outcome file left (Last rules) = IsLast outcome left × (rules ≡ rules_by outcome file)

-- received answers give these rules: the first for this address, each further one for the target of a redirect, of which so many may still be followed
unfoldable pub IsChain : (AddressText → Outcome → BodyValue → Type 0) → ℕ → AddressText → RuleSetValue → Type 0
IsChain Says zero at rules = (x : Outcome) × (body : BodyValue) × Says at x body × SaysHop x body.bytes zero (Last rules)
IsChain Says (suc n) at rules =
    (x : Outcome) × (body : BodyValue) × Says at x body
    × (SaysHop x body.bytes (suc n) (Last rules) ⊎ ((next : AddressText) × SaysHop x body.bytes (suc n) (Next next) × IsChain Says n next rules))

-- the rules are at the end of a chain with one hop for each connection that was requested between these counts
abbrev pub CountsHops : ℕ → ℕ → OriginText → RuleSetValue → Type 0
CountsHops before after of rules =
    (hops : List HopValue) × IsAdmitted of hops × (rules ≡ rules_of_hops hops) × (after ≡ counted before (length hops))
