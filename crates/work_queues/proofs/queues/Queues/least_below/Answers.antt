use Rattle.std.proofs.Common.{arith}
use Rattle.work_queues.proofs.QueueLaws.{queued_within}
use Rattle.work_queues.proofs.queues.Queues.least_below.Goals as goal

pub queued-queued-requires-clause-queue : goal.queued-queued-requires-clause-queue
queued-queued-requires-clause-queue c =
    let inside = c.requires.inside in
    let lt = queued_within c.args.self.now.queues.items c.args.queue (omega (arith, inside)) in
    omega (arith, lt)
