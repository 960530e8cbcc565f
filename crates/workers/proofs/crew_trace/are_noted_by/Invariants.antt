use Rattle.std.proofs.Common.{ℕ, ◌<◌, get_or}
use Rattle.frontier_core.specs.declared.event.Event.{Event}
use Rattle.workers.specs.inner.Takers.{IsNotedBy}
use Rattle.workers.proofs.crew_trace.are_noted_by.Given as goal

abbrev pub invariant-loop-event : goal.invariant-loop-event
invariant-loop-event g l = (k : ℕ) (d : Event) → k < l.event-index → IsNotedBy l.notes.pages.items l.notes.rules.items (get_or l.trace k d)
