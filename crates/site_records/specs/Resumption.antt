-- A site that is answered from a record as far as this says, and by a fetcher for the rest.
use Rattle.std.specs.Prelude.{◌≡◌, ◌≤◌, ℕ, List, All, Some, None, MatchOption, length, drop, take}
use Rattle.std.specs.Map.{lookup}
use Rattle.std.specs.Str.{bytes_eq}
use Rattle.kept_bodies.specs.Bodies.{BodyValue}
use Rattle.address.specs.Address.{AddressText, OriginText}
use Rattle.robots_rules.specs.Access.{RuleSetValue}
use Rattle.fetcher.specs.declared.answer.Answer.{Answer}
use Rattle.fetcher.specs.declared.fetcher.Ask.{Ask}
use Rattle.fetcher.specs.declared.fetcher.Ask.TheVariants as ask
use Rattle.fetcher.specs.declared.outcome.Outcome.{Outcome}
use Rattle.site_records.specs.RecordSites.{RecordValue}

-- what the record states, the fetcher's own site, and what the fetcher had been asked before
pub record Resumption (S : Type 0) : Type 0 where
  pub answers : List (AddressText × Answer BodyValue)
  pub rules : List (OriginText × RuleSetValue)
  pub inner : S
  pub before : List Ask

-- such a site gives an address the answer that the record states, and one that isn't named there what the fetcher's site may
abbrev pub SaysOr : {S : Type 0} → (S → AddressText → Outcome → BodyValue → Type 0) → Resumption S → AddressText → Outcome → BodyValue → Type 0
SaysOr says site at x body =
    MatchOption (lookup (bytes_eq at) site.answers) (says site.inner at x body) (λ a. (x ≡ a.outcome) × (body ≡ a.body))

-- the same of origins and their rule sets
abbrev pub RulesOr : {S : Type 0} → (S → OriginText → RuleSetValue → Type 0) → Resumption S → OriginText → RuleSetValue → Type 0
RulesOr rules site of r = MatchOption (lookup (bytes_eq of) site.rules) (rules site.inner of r) (λ stated. r ≡ stated)

-- the record states no answer to the ask
abbrev pub IsUnstated : List (AddressText × Answer BodyValue) → List (OriginText × RuleSetValue) → Ask → Type 0
IsUnstated answers rules (ask.Page at) = lookup (bytes_eq at) answers ≡ None
IsUnstated answers rules (ask.Rules of) = lookup (bytes_eq of) rules ≡ None

-- a fetcher, with the record, what it was asked itself, and how much the fetcher had been asked before
pub record Resuming (F : Type 0) : Type 0 where
  pub recorded : RecordValue
  pub inner : F
  pub asks : List Ask
  pub since : ℕ

-- the site of such a fetcher
abbrev pub resumption_of : {F S : Type 0} → (F → S) → (F → List Ask) → Resuming F → Resumption S
resumption_of site log r =
    record { answers = r.recorded.answers; rules = r.recorded.rules; inner = site r.inner; before = take r.since (log r.inner) }

-- what the fetcher was asked since is not what the record states
pub record IsSpared (answers : List (AddressText × Answer BodyValue)) (rules : List (OriginText × RuleSetValue)) (since : ℕ) (log : List Ask) : Type 0 where
  pub within : since ≤ length log
  pub unstated : All (IsUnstated answers rules) (drop since log)

-- ---- a steady site

-- each answer and each rule set that is stated is one that the site may give
pub record AreOf {S : Type 0} (says : S → AddressText → Outcome → BodyValue → Type 0) (rules : S → OriginText → RuleSetValue → Type 0) (site : S)
    (answers : List (AddressText × Answer BodyValue)) (sets : List (OriginText × RuleSetValue)) : Type 0 where
  pub answers_are : (at : AddressText) (a : Answer BodyValue) → lookup (bytes_eq at) answers ≡ Some a → says site at a.outcome a.body
  pub rules_are : (of : OriginText) (r : RuleSetValue) → lookup (bytes_eq of) sets ≡ Some r → rules site of r
