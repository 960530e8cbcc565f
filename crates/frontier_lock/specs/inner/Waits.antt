-- When a worker may be asleep, and that what is called makes at most one step.
use Rattle.std.specs.Prelude.{◌≡◌, ℕ}
use Rattle.std.specs.Borrow.{MutBor}
use Rattle.std.specs.Fn.{Once}
use Rattle.frontier_core.specs.Machine.{Action}
use Rattle.frontier_core.specs.Traced.{Traced, Makes}
use Rattle.frontier_core.specs.Taken.{TakesWork}
use Rattle.frontier_core.specs.declared.work.Work.TheVariants.{Busy}

-- a worker that asked would learn that others are at work, upon which it sleeps
abbrev pub IsSleptAt : Traced → Type 0
IsSleptAt frontier = (worker : ℕ) × TakesWork frontier worker Busy frontier

-- if no step of the frontier was made, nothing changed
pub record MakesAtMostOne (old new : Traced) : Type 0 where
  pub same : ((action : Action) → ¬ Makes old action new) → new ≡ old

-- a call at the frontier old with this input may give this answer, and leave the frontier new
pub record IsMadeBy {F A R : Type 0} (g : Once F (MutBor Traced × (A × Unit {0})) (R × (MutBor Traced × Unit {0}))) (f : F) (input : A) (old : Traced) (answer : R) (new : Traced) : Type 0 where
  pub shown : MutBor Traced
  pub shows : shown.now ≡ old
  pub left : MutBor Traced
  pub met : g.post f (shown, (input, tt)) (answer, (left, tt))
  pub leaves : left.now ≡ new

-- each call makes at most one step
abbrev pub IsOneStep : {F A R : Type 0} → Once F (MutBor Traced × (A × Unit {0})) (R × (MutBor Traced × Unit {0})) → F → A → Type 0
IsOneStep {F} {A} {R} g f input = (shown left : MutBor Traced) (answer : R) → g.post f (shown, (input, tt)) (answer, (left, tt)) → MakesAtMostOne shown.now left.now
