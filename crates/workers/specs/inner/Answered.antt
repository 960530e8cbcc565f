-- What several fetchers retrieve, or did until they stopped.
use Rattle.std.specs.Prelude.{◌≡◌, ◌≢◌, List}
use Rattle.follow_filters.specs.declared.plan.Plan.{Plan}
use Rattle.fetcher.specs.declared.fetcher.Fetcher.{Ghosts as Meaning}
use Rattle.frontier_core.specs.Routes.{HasTooMany}
use Rattle.frontier_core.specs.Plans.{policy}
use Rattle.frontier_core.specs.Machine.{answers}
use Rattle.frontier_core.specs.Invariants.{IsOverfull}
use Rattle.frontier_core.specs.declared.event.Cause.{Cause}
use Rattle.frontier_core.specs.declared.event.Cause.TheVariants as why
use Rattle.frontier_core.specs.declared.event.Event.{Event}
use Rattle.workers.specs.declared.crew_retrieval.KnownNotes.{KnownNotes}
use Rattle.workers.specs.declared.crew_retrieval.KnownNotes.TheVariants as known
use Rattle.workers.specs.Asks.{AreOnce}
use Rattle.workers.specs.Crews.{AreLater, all_gained, SomeSays, SomeRules}
use Rattle.harvest.specs.Gathered.{AreEntries}
use Rattle.harvest.specs.Harvests.{Harvested}
use Rattle.workers.specs.inner.Noted.{AreNoted}
use Rattle.workers.specs.Retrieval.{IsRetrieved, IsStopped}
use Rattle.workers.specs.Takers.{AreOwn}
use Rattle.workers.specs.inner.Takers.{AreNotedBy}

module _ {F B : Type 0} (m : Meaning F B) where
  -- the fetchers came back in their order, and the retrieval has found what is to be found; its entries say what its state holds
  pub record IsRetrievedBy (plan : Plan) (old new : List F) (h : Harvested B) : Type 0 where
    pub later : AreLater m old new
    pub retrieved : IsRetrieved (SomeSays m old new) (SomeRules m old new) plan (all_gained m old new) h
    pub entries : AreEntries h

  -- the fetchers came back in their order; if no check failed, what was found until the stop is there, or there was no memory for it
  pub record IsStoppedBy (plan : Plan) (old new : List F) (cause : Cause) (h : Harvested B) : Type 0 where
    pub later : AreLater m old new
    pub stopped : cause ≢ why.Mismatch → IsStopped (SomeSays m old new) (SomeRules m old new) plan (all_gained m old new) cause h
    pub full : cause ≡ why.Full → HasTooMany (policy plan) (answers h.state) × IsOverfull (policy plan) h.state

  -- what is known of the notes: all of them, or that nothing was requested twice
  abbrev pub IsAccount : Plan → List F → List F → KnownNotes B → Type 0
  IsAccount plan old new (known.All notes) =
      AreNoted (SomeSays m old new) (SomeRules m old new) plan (all_gained m old new) notes.pages.items notes.rules.items
  IsAccount plan old new known.Once = AreOnce (all_gained m old new)
  IsAccount plan old new known.Twice = Unit {0}

  -- if the notes are known, and by some lines each was noted by its taker, each fetcher was to request what its worker took
  abbrev pub IsOwnAccount : List F → List F → KnownNotes B → Type 0
  IsOwnAccount old new (known.All notes) = (trace : List Event) → AreNotedBy notes.pages.items notes.rules.items trace → AreOwn m 0 old new trace
  IsOwnAccount old new known.Once = Unit {0}
  IsOwnAccount old new known.Twice = Unit {0}
