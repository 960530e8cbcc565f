use Rattle.std.proofs.Common.{ℕ, ◌<◌, get_or}
use Rattle.std.specs.Prelude.{IfSome}
use Rattle.frontier_core.specs.declared.event.Event.{Event}
use Rattle.workers.specs.OneWorker.{worker_of}
use Rattle.workers.proofs.crew_trace.are_by_crew.Given as goal

abbrev pub invariant-loop-event : goal.invariant-loop-event
invariant-loop-event l = (k : ℕ) (d : Event) → k < l.event-index → IfSome (worker_of (get_or l.trace k d)) (λ worker. worker < l.workers)
