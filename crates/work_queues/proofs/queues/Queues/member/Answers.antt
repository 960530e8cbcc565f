use Rattle.std.proofs.Common.{arith}
use Rattle.work_queues.proofs.QueueLaws.{queue_within, member_within}
use Rattle.work_queues.proofs.queues.Queues.member.Goals as goal

pub index-requires : goal.index-requires
index-requires c =
    let lt = queue_within c.args.self.now.queues.items c.args.queue c.args.place c.requires in
    omega (arith, lt)

pub index-requires-2 : goal.index-requires-2
index-requires-2 c =
    let lt = queue_within c.args.self.now.queues.items c.args.queue c.args.place c.requires in
    let inside = member_within c.args.self.now.queues.items c.args.queue c.args.place c.index.result.now lt c.index.ensures c.requires in
    omega (arith, inside)
