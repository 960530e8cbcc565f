-- What the notes of all workers say of the asks, and of the table.
use Rattle.std.specs.Prelude.{◌≡◌, ℕ, List, Option, None, Some, All, Contains, IsSome, IsPermutation, MatchOption}
use Rattle.follow_filters.specs.declared.plan.Plan.{Plan}
use Rattle.robots_rules.specs.Access.{RuleSetValue}
use Rattle.fetcher.specs.declared.fetcher.Ask.{Ask}
use Rattle.fetcher.specs.declared.outcome.Outcome.{Outcome}
use Rattle.frontier_core.specs.Tables.{Text, IsOnce}
use Rattle.frontier_core.specs.Machine.{State, answers}
use Rattle.frontier_core.specs.Invariants.{IsGivenUp, AreRulesGivenUp}
use Rattle.workers.specs.declared.note.PageNote.{PageNote}
use Rattle.workers.specs.declared.note.RulesNote.{RulesNote}
use Rattle.harvest.specs.declared.page.KeptPage.{KeptPage}
use Rattle.workers.specs.Asks.{pages_asked, origins_asked}
use Rattle.workers.specs.inner.Notes.{IsPageOfSite, AreRulesOfSite, addresses, origins}

-- each ask has its note, in whatever order, and what was noted of an answer is what may be said
pub record AreNoted {B : Type 0} (may_say : Text → Outcome → B → Type 0) (may_rule : Text → RuleSetValue → Type 0) (plan : Plan) (asks : List Ask) (notes : List (PageNote B)) (sets : List RulesNote) : Type 0 where
  pub pages : IsPermutation (pages_asked asks) (addresses notes)
  pub rules : IsPermutation (origins_asked asks) (origins sets)
  pub told : All (IsPageOfSite may_say plan) notes
  pub ruled : All (AreRulesOfSite may_rule) sets

-- what was noted of a page is in the table: its outcome is recorded, or it was given up
abbrev pub StandsPage : {B : Type 0} → State → PageNote B → Type 0
StandsPage s note = MatchOption note.outcome (IsGivenUp s note.address) (λ x. (answers s).outcome note.address ≡ Some x)

-- what was noted of an origin is in the table: its rules are known, or they were given up
abbrev pub StandsRules : State → RulesNote → Type 0
StandsRules s note = MatchOption note.rules (AreRulesGivenUp s note.origin) (λ rules. (answers s).rules note.origin ≡ Some rules)

-- The notes agree with the table: nothing was requested twice, what was noted is in the table, and what is recorded there
-- was noted.
pub record Agrees {B : Type 0} (s : State) (pages : List (PageNote B)) (sets : List RulesNote) : Type 0 where
  pub once : IsOnce (addresses pages)
  pub once_origins : IsOnce (origins sets)
  pub stand : All (StandsPage s) pages
  pub stand_rules : All (StandsRules s) sets
  pub recorded : (u : Text) → IsSome ((answers s).outcome u) → Contains (addresses pages) u
  pub ruled : (o : Text) → IsSome ((answers s).rules o) → Contains (origins sets) o

-- the page that is kept of a note, if it has a body
abbrev pub page_with : {B : Type 0} → Text → Option B → Option (KeptPage B)
page_with u None = None
page_with u (Some body) = Some (record { address = u; body = body })

abbrev pub page_of : {B : Type 0} → PageNote B → Option (KeptPage B)
page_of note = page_with note.address note.body
