use Rattle.std.proofs.Common.{ℕ, ◌<◌, get_or}
use Rattle.workers.specs.inner.Apart.{AreNotedApart}
use Rattle.workers.specs.inner.Notes.{addresses, origins}
use Rattle.workers.proofs.once.is_apart.Given as goal

abbrev pub invariant-loop-seat : goal.invariant-loop-seat
invariant-loop-seat g l = (k : ℕ) (d : _) → k < l.seat-index
    → AreNotedApart (addresses l.notes.pages.items) (addresses (get_or l.seats k d).notes.pages.items) × AreNotedApart (origins l.notes.rules.items) (origins (get_or l.seats k d).notes.rules.items)
