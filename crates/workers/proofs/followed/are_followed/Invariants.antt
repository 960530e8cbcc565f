use Rattle.std.proofs.Common.{ℕ, ◌<◌, get_or}
use Rattle.frontier_core.specs.Tables.{IsOnce}
use Rattle.frontier_core.specs.declared.event.Event.{Event}
use Rattle.workers.specs.inner.Notes.{addresses, origins}
use Rattle.workers.specs.inner.Takers.{IsNotedBy}
use Rattle.workers.proofs.followed.are_followed.Given as goal

abbrev pub invariant-loop-event : goal.invariant-loop-event
invariant-loop-event g l = IsOnce (addresses l.notes.pages.items) → IsOnce (origins l.notes.rules.items)
    → (k : ℕ) (d : Event) → k < l.event-index → IsNotedBy l.notes.pages.items l.notes.rules.items (get_or l.trace k d)
