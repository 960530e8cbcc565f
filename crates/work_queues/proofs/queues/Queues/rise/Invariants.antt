use Rattle.std.proofs.Common.{◌<◌}
use Rattle.work_queues.specs.Queues.{queued_of}
use Rattle.work_queues.specs.inner.Queues.{IsRearranged}
use Rattle.work_queues.proofs.queues.Queues.rise.Given as goal

abbrev pub invariant-loop-place : goal.invariant-loop-place
invariant-loop-place l = record { same : IsRearranged l.fn.self l.self; inside : l.place < queued_of l.self.queues.items l.queue }

abbrev pub decreases-loop-place : goal.decreases-loop-place
decreases-loop-place l = l.place
