-- What a site may answer that is asked over connections.
use Rattle.std.specs.Prelude.{◌≡◌, ◌⊎◌, ℕ, List, ◌++◌, Some, codes}
use Rattle.address.specs.Address.{AddressText, OriginText}
use Rattle.robots_rules.specs.Access.{RuleSetValue}
use Rattle.response_reader.specs.Limits.{Limited, standard}
use Rattle.response_reader.specs.ReadFaults.{IsReadFault}
use Rattle.response_reader.specs.declared.fault.ReadFault.{ReadFault}
use Rattle.kept_bodies.specs.Bodies.{BodyValue, no_body}
use Rattle.fetcher.specs.declared.answer.Answer.{Answer}
use Rattle.fetcher.specs.declared.fault_kind.FaultKind.{FaultKind}
use Rattle.fetcher.specs.declared.fault_kind.FaultKind.TheVariants as kind
use Rattle.fetcher.specs.declared.outcome.Outcome.{Outcome}
use Rattle.fetcher.specs.declared.outcome.Outcome.TheVariants.{Fault}
use Rattle.response_answer.specs.KindsOfFaults.{kind_of_fault}
use Rattle.answer_notes.specs.RobotsAnswers.{max_redirects}
use Rattle.http_fetcher.specs.Chains.{IsChain}
use Rattle.http_fetcher.specs.Fetching.{IsDigestOf}
use Rattle.html_links.specs.declared.rules.LinkRules.{LinkRules}

-- the answer is this fault, without a body
abbrev pub IsNoResponse : FaultKind → Outcome → BodyValue → Type 0
IsNoResponse kind x body = (x ≡ Fault kind) × (body ≡ no_body)

-- the answer is the fault for which no response within these limits was read of these bytes
abbrev pub IsUnread : Limited → Outcome → BodyValue → List ℕ → Type 0
IsUnread limits x body bytes =
    (fault : ReadFault) × (kind : FaultKind) × (kind_of_fault fault ≡ Some kind) × IsReadFault limits fault bytes × IsNoResponse kind x body

-- the answer is what the bytes say, read as a response within these limits: that of the response with which they begin, or the fault by which
-- none was read
abbrev pub IsSaidBy : Limited → LinkRules → AddressText → Answer BodyValue → List ℕ → Type 0
IsSaidBy limits links at answer bytes = IsDigestOf limits links at answer.outcome answer.body bytes ⊎ IsUnread limits answer.outcome answer.body bytes

-- what a site may answer for an address within these limits, if these links of pages are taken: what the response that begins some bytes answers,
-- or the fault of such bytes; or no connection was made, or the request wasn't written
abbrev pub MayAnswerWithin : Limited → LinkRules → AddressText → Outcome → BodyValue → Type 0
MayAnswerWithin limits links at x body =
    ((bytes : List ℕ) × IsDigestOf limits links at x body bytes)
    ⊎ ((bytes : List ℕ) × IsUnread limits x body bytes)
    ⊎ IsNoResponse kind.Connect x body
    ⊎ IsNoResponse kind.Device x body

-- the same within the usual limits
abbrev pub MayAnswer : LinkRules → AddressText → Outcome → BodyValue → Type 0
MayAnswer links at x body = MayAnswerWithin standard links at x body

-- which rules an origin may have: those at the end of a chain of such answers, which begins at its robots file (RFC 9309, section 2.3.1)
abbrev pub MayRule : LinkRules → OriginText → RuleSetValue → Type 0
MayRule links of rules = IsChain (MayAnswer links) max_redirects (of ++ codes "/robots.txt") rules
