-- What is concluded from the notes of all workers and the frontier that they left.
use Rattle.std.specs.Prelude.{◌≡◌, ◌≢◌, ◌⊎◌, ℕ, List, Option, None, Some, IsPermutation, MatchOption, ◌&&◌}
use Rattle.std.specs.List.{filter_map}
use Rattle.std.specs.Option.{is_some}
use Rattle.follow_filters.specs.Rules.{keeps_of}
use Rattle.follow_filters.specs.declared.plan.Plan.{Plan}
use Rattle.frontier_core.specs.Tables.{IsOnce}
use Rattle.frontier_core.specs.Plans.{policy}
use Rattle.frontier_core.specs.Machine.{IsQuiet}
use Rattle.frontier_core.specs.Invariants.{IsOverfull}
use Rattle.frontier_core.specs.Lines.{IsReplay}
use Rattle.frontier_core.specs.Traced.{Traced}
use Rattle.frontier_core.specs.declared.event.Cause.{Cause}
use Rattle.frontier_core.specs.declared.event.Cause.TheVariants as why
use Rattle.workers.specs.declared.note.PageNote.{PageNote}
use Rattle.workers.specs.declared.note.RulesNote.{RulesNote}
use Rattle.harvest.specs.Harvests.{Harvested}
use Rattle.harvest.specs.declared.page.KeptPage.{KeptPage}
use Rattle.workers.specs.inner.Noted.{Agrees, page_of}
use Rattle.workers.specs.inner.Notes.{addresses, origins}
use Rattle.workers.specs.OneWorker.{AreByCrew}
use Rattle.workers.specs.Quotas.{IsPassed}
use Rattle.workers.specs.inner.Takers.{AreNotedBy}
use Rattle.harvest.specs.Pages.{is_success}
use Rattle.harvest.specs.Gathered.{IsHarvestOf}
use Rattle.workers.specs.inner.Turns.{IsNothing}

-- a body is noted exactly if the page is kept
abbrev pub HasBody : {B : Type 0} → Plan → PageNote B → Type 0
HasBody plan note = MatchOption note.outcome (note.body ≡ None) (λ x. is_some note.body ≡ (keeps_of plan note.address && is_success x))

-- The frontier went by the plan and is the replay of its trace; what was noted, put in order, agrees with its table; and the
-- harvest is made of both.
pub record IsConcluded {B : Type 0} (plan : Plan) (frontier : Traced) (notes : List (PageNote B)) (sets : List RulesNote) (h : Harvested B) : Type 0 where
  pub sorted : List (PageNote B)
  pub sorted_sets : List RulesNote
  pub moved : IsPermutation notes sorted
  pub moved_sets : IsPermutation sets sorted_sets
  pub follows : frontier.plan ≡ plan
  pub replay : IsReplay (policy frontier.plan) frontier.trace frontier.state
  pub agrees : Agrees frontier.state sorted sorted_sets
  pub harvest : IsHarvestOf frontier (filter_map page_of sorted) h

-- The frontier went by the plan and is the replay of its trace; what was noted, put in order, agrees with its table; and these
-- are the pages that are kept of it.
pub record IsBorneOut {B : Type 0} (plan : Plan) (frontier : Traced) (notes : List (PageNote B)) (sets : List RulesNote) (pages : List (KeptPage B)) : Type 0 where
  pub sorted : List (PageNote B)
  pub sorted_sets : List RulesNote
  pub moved : IsPermutation notes sorted
  pub moved_sets : IsPermutation sets sorted_sets
  pub follows : frontier.plan ≡ plan
  pub replay : IsReplay (policy frontier.plan) frontier.trace frontier.state
  pub agrees : Agrees frontier.state sorted sorted_sets
  pub kept : pages ≡ filter_map page_of sorted

-- nothing was requested twice, and there was no memory for a harvest
pub record IsBare {B : Type 0} (notes : List (PageNote B)) (sets : List RulesNote) (cause : Cause) (h : Harvested B) : Type 0 where
  pub once : IsOnce (addresses notes)
  pub once_origins : IsOnce (origins sets)
  pub nothing : IsNothing cause h

-- the frontier was left neither quiet nor stopped for Memory or Quota, nor as a full table that a refused edge shows
pub record IsUnexplained (frontier : Traced) : Type 0 where
  pub unquiet : ¬ IsQuiet frontier.state
  pub supplied : frontier.state.cause ≢ Some why.Memory
  pub unspent : frontier.state.cause ≢ Some why.Quota
  pub unborne : frontier.state.cause ≡ Some why.Full → ¬ IsOverfull (policy frontier.plan) frontier.state

-- the frontier was left quiet with more bytes kept than the quota, or stopped for the quota with no more
abbrev pub IsMiscounted : Option ℕ → Traced → ℕ → Type 0
IsMiscounted most frontier bytes =
    (IsQuiet frontier.state × IsPassed most bytes) ⊎ ((frontier.state.cause ≡ Some why.Quota) × ¬ IsPassed most bytes)

-- what a crew of so many workers left belies what it noted: the frontier went by another plan, its trace names a worker that isn't
-- one of them, what was noted doesn't agree with its table, or by its trace another than the worker who noted it took it
abbrev pub IsBelied : {B : Type 0} → Plan → ℕ → Traced → List (PageNote B) → List RulesNote → Type 0
IsBelied plan workers frontier notes sets =
    (frontier.plan ≢ plan) ⊎ ((¬ AreByCrew workers frontier.trace) ⊎ ((¬ Agrees frontier.state notes sets) ⊎ (¬ AreNotedBy notes sets frontier.trace)))
