-- What was received for an address, a whole response or why there is none, and what that answers.
use Rattle.std.specs.Prelude.{◌≡◌, ℕ, List, [], Option, Some, None}
use Rattle.address.specs.Address.{AddressText}
use Rattle.robots_rules.specs.Access.{RuleSetValue}
use Rattle.kept_bodies.specs.Bodies.{BodyValue, no_body}
use Rattle.fetcher.specs.declared.outcome.Outcome.{Outcome}
use Rattle.fetcher.specs.declared.outcome.Outcome.TheVariants as outcome
use Rattle.response_answer.specs.Digests.{digest_of, body_of, target_of}
use Rattle.answer_notes.specs.RobotsAnswers.{none_allowed, rules_by_status}
use Rattle.answer_notes.specs.declared.received.Received.{Received}
use Rattle.answer_notes.specs.declared.received.Received.TheVariants.{Whole, Fault}
use Rattle.html_links.specs.declared.rules.LinkRules.{LinkRules}

-- the outcome that it says
abbrev pub received_outcome : LinkRules → AddressText → Received → Outcome
received_outcome links at (Whole response) = digest_of links at response
received_outcome links at (Fault kind) = outcome.Fault kind

-- the body that is kept of it
abbrev pub received_body : Received → BodyValue
received_body (Whole response) = body_of response.head response.body
received_body (Fault kind) = no_body

-- the target of its redirect from the address that was asked
abbrev pub received_target : AddressText → Received → Option AddressText
received_target at (Whole response) = target_of at response.head
received_target at (Fault kind) = None

-- the rules of an origin whose robots file it is, if no redirect is followed any more (RFC 9309, section 2.3.1); a status
-- that redirects is neither one of success nor one of a server that failed, so it allows everything
abbrev pub received_rules : Received → RuleSetValue
received_rules (Whole response) = rules_by_status response.head.status response.body
received_rules (Fault kind) = none_allowed
