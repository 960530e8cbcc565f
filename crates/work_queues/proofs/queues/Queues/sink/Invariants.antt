use Rattle.std.proofs.Common.{◌<◌, ◌-◌}
use Rattle.work_queues.specs.Queues.{queued_of}
use Rattle.work_queues.specs.inner.Queues.{IsRearranged}
use Rattle.work_queues.proofs.queues.Queues.sink.Given as goal

abbrev pub invariant-loop-below : goal.invariant-loop-below
invariant-loop-below l = record { same : IsRearranged l.fn.self l.self; inside : l.place < queued_of l.self.queues.items l.queue }

abbrev pub decreases-loop-below : goal.decreases-loop-below
decreases-loop-below l = queued_of l.self.queues.items l.queue - l.place
