-- What a retrieval found, by the answers that were recorded alone, without mention of the events that led there.
use Rattle.std.specs.Prelude.{◌≡◌, ◌≢◌, ◌↔◌, ℕ, List, Contains, IsSome, All, Any, AllPairs}
use Rattle.follow_filters.specs.declared.plan.Plan.{Plan}
use Rattle.robots_rules.specs.Access.{RuleSetValue}
use Rattle.fetcher.specs.declared.fetcher.Ask.{Ask}
use Rattle.fetcher.specs.declared.fetcher.Ask.TheVariants as ask
use Rattle.fetcher.specs.declared.outcome.Outcome.{Outcome}
use Rattle.frontier_core.specs.Tables.{Text}
use Rattle.frontier_core.specs.Routes.{Answers, IsCandidate, IsDepth, IsWanted, IsNeeded}
use Rattle.frontier_core.specs.Plans.{policy}
use Rattle.harvest.specs.declared.entry.HarvestEntry.{HarvestEntry}
use Rattle.workers.specs.Asks.{IsOfSite}

-- nothing is requested twice
abbrev pub AreMadeOnce : List Ask → Type 0
AreMadeOnce asks = AllPairs (λ one other. one ≢ other) asks

-- These asks were made, and this is recorded of them: the pages are those that are wanted by what is recorded, the rules those
-- of the origins that need them, each requested once. Each outcome and rule set is one that the site may have answered.
pub record AreAsked {B : Type 0} (may_say : Text → Outcome → B → Type 0) (may_rule : Text → RuleSetValue → Type 0) (plan : Plan) (asks : List Ask) (m : Answers) : Type 0 where
  pub once : AreMadeOnce asks
  pub wanted : (u : Text) → Contains asks (ask.Page u) ↔ IsWanted (policy plan) m u
  pub needed : (o : Text) → Contains asks (ask.Rules o) ↔ IsNeeded (policy plan) m o
  pub outcomes : (u : Text) → Contains asks (ask.Page u) ↔ IsSome (m.outcome u)
  pub rules : (o : Text) → Contains asks (ask.Rules o) ↔ IsSome (m.rules o)
  pub told : IsOfSite may_say may_rule m

-- the entries are the addresses to which routes lead by what is recorded, each with its least depth
pub record AreFound (plan : Plan) (m : Answers) (entries : List HarvestEntry) : Type 0 where
  pub each : All (λ entry. IsDepth (policy plan) m entry.address entry.depth) entries
  pub all : (u : Text) → IsCandidate (policy plan) m u → Any (λ entry. entry.address ≡ u) entries
