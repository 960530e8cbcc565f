use Rattle.std.proofs.Common.{◌<◌, length, sym, arith}
use Rattle.work_queues.proofs.QueueLaws.{read, queued_at}
use Rattle.work_queues.proofs.queues.Queues.queued.Goals as goal

pub returns-clause-value : goal.returns-clause-value
returns-clause-value c =
    let lt : c.args.queue < length c.args.self.now.queues.items = omega arith in
    sym (queued_at c.args.self.now.queues.items c.args.queue c.index.result.now (read c.args.self.now.queues.items c.args.queue c.index.result.now lt c.index.ensures))

pub returns-clause-within : goal.returns-clause-within
returns-clause-within c =
    let lt : c.args.queue < length c.args.self.now.queues.items = omega arith in
    let queued = queued_at c.args.self.now.queues.items c.args.queue c.index.result.now (read c.args.self.now.queues.items c.args.queue c.index.result.now lt c.index.ensures) in
    let within = c.requires.placed.within c.args.queue in
    omega (arith, queued, within)
