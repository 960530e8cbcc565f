use Rattle.std.proofs.Common.{arith}
use Rattle.work_queues.proofs.QueueLaws.{read, inside}
use Rattle.work_queues.proofs.queues.Queues.turn_of.Goals as goal

pub member-requires : goal.member-requires
member-requires c =
    let at = read c.args.self.now.places.items c.args.number c.index.result.now (omega arith) c.index.ensures in
    inside c.args.self.now c.args.number c.index.result.now c.requires.placed at
