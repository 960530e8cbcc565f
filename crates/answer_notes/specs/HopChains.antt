-- Chains of what was received for an origin's robots file and for the redirects after it (RFC 9309, section 2.3.1.2).
use Rattle.std.specs.Prelude.{◌≡◌, ⊤, ℕ, zero, suc, List, [], ◌∷◌, ◌++◌, Option, Some, None, codes}
use Rattle.address.specs.Address.{AddressText, OriginText}
use Rattle.robots_rules.specs.Access.{RuleSetValue}
use Rattle.answer_notes.specs.RobotsAnswers.{none_allowed, max_redirects}
use Rattle.answer_notes.specs.Received.{received_target, received_rules}
use Rattle.answer_notes.specs.declared.received.Received.{Received}

-- an address that was asked, and what was received
abbrev pub HopValue : Type 0
HopValue = AddressText × Received

-- a hop ends the chain if so many more redirects may be followed: it redirects nowhere, or none may be
abbrev pub EndsChain : ℕ → Option AddressText → Type 0
EndsChain zero target = ⊤
EndsChain (suc left) target = target ≡ None

-- The hops begin at this address, of which so many more redirects may be followed: each further one is the target of the
-- redirect before it, and the last ends the chain.
abbrev pub AreHops : ℕ → AddressText → List HopValue → Type 0
AreHops left at [] = ⊥
AreHops left at (hop ∷ []) = (hop.0 ≡ at) × EndsChain left (received_target at hop.1)
AreHops zero at (hop ∷ next ∷ more) = ⊥
AreHops (suc left) at (hop ∷ next ∷ more) = (hop.0 ≡ at) × (received_target at hop.1 ≡ Some next.0) × AreHops left next.0 (next ∷ more)

-- the rules at the end of the hops
abbrev pub rules_of_hops : List HopValue → RuleSetValue
rules_of_hops [] = none_allowed
rules_of_hops (hop ∷ []) = received_rules hop.1
rules_of_hops (hop ∷ next ∷ more) = rules_of_hops (next ∷ more)

-- an origin with its hops
pub record ChainValue : Type 0 where
  pub of : OriginText
  pub hops : List HopValue

-- the address of an origin's robots file (RFC 9309, section 2.3)
abbrev pub robots_file : OriginText → AddressText
robots_file of = of ++ codes "/robots.txt"

-- the chain begins at the origin's robots file, and goes as far as redirects are followed
abbrev pub IsAdmitted : OriginText → List HopValue → Type 0
IsAdmitted of hops = AreHops max_redirects (robots_file of) hops
