-- Which steps of the frontier an answer that is exchanged for work makes.
use Rattle.std.specs.Prelude.{◌≡◌, ◌⊎◌, ◌<◌, ℕ, length}
use Rattle.frontier_core.specs.Plans.{policy}
use Rattle.frontier_core.specs.Invariants.{IsOverfull}
use Rattle.frontier_core.specs.Traced.{Traced, Stops, Spreads, SpreadsPart}
use Rattle.frontier_core.specs.Taken.{TakesWork}
use Rattle.frontier_core.specs.declared.event.Cause.TheVariants as why
use Rattle.frontier_core.specs.declared.work.Work.{Work}
use Rattle.frontier_core.specs.declared.work.Work.TheVariants.{Stopped}
use Rattle.frontier_lock.specs.declared.lock.Done.{Done}
use Rattle.frontier_lock.specs.inner.Steps.{Records}

-- a due address is spread in part, since one more address is led to than may be held, and the frontier stops
abbrev pub StopsFull : Traced → Traced → Type 0
StopsFull old new = (mid : Traced) × SpreadsPart old mid × IsOverfull (policy mid.plan) mid.state × Stops mid why.Full new

-- memory ran out, so a due address is spread not at all, or in part with room for more addresses, and the frontier stops
abbrev pub StopsShort : Traced → Traced → Type 0
StopsShort old new = (mid : Traced) × ((mid ≡ old) ⊎ (SpreadsPart old mid × (length mid.state.entries < mid.plan.max_urls))) × Stops mid why.Memory new

-- the edges of a due address are offered, if there is one; if they are refused the frontier stops
abbrev pub OffersOrStops : Traced → Traced → Type 0
OffersOrStops old new = Spreads old new ⊎ (StopsFull old new ⊎ StopsShort old new)

-- the worker takes work; if there is no memory for it the frontier stops
abbrev pub TakesOrStops : Traced → ℕ → Work → Traced → Type 0
TakesOrStops old worker work new = TakesWork old worker work new ⊎ ((work ≡ Stopped why.Memory) × Stops old why.Memory new)

-- an answer is recorded, the edges of one due address are offered, and the worker takes work
pub record Exchanges (old : Traced) (done : Done) (worker : ℕ) (work : Work) (new : Traced) : Type 0 where
  pub recorded : Traced
  pub offered : Traced
  pub records : Records old done recorded
  pub offers : OffersOrStops recorded offered
  pub takes : TakesOrStops offered worker work new
