use Rattle.std.proofs.Common.{arith}
use Rattle.work_queues.proofs.QueueLaws.{queue_within, member_within}
use Rattle.work_queues.proofs.queues.Queues.precedes.Goals as goal

pub index-requires : goal.index-requires
index-requires c =
    let lt = queue_within c.args.self.now.queues.items c.args.queue c.args.a c.requires.a in
    omega (arith, lt)

pub index-first-requires : goal.index-first-requires
index-first-requires c =
    let lt = queue_within c.args.self.now.queues.items c.args.queue c.args.a c.requires.a in
    let inside = member_within c.args.self.now.queues.items c.args.queue c.args.a c.index.result.now lt c.index.ensures c.requires.a in
    omega (arith, inside)

pub index-second-requires : goal.index-second-requires
index-second-requires c =
    let lt = queue_within c.args.self.now.queues.items c.args.queue c.args.a c.requires.a in
    let inside = member_within c.args.self.now.queues.items c.args.queue c.args.b c.index.result.now lt c.index.ensures c.requires.b in
    omega (arith, inside)
