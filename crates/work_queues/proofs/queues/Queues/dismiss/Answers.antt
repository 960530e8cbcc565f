use Rattle.std.proofs.Common.{◌-◌, arith}
use Rattle.work_queues.proofs.QueueLaws.{queued_within, read, queued_at, queued-set_same, queued-set_other}
use Rattle.work_queues.proofs.Resizes.{dismissed}
use Rattle.work_queues.proofs.queues.Queues.dismiss.Goals as goal

pub index_mut-requires : goal.index_mut-requires
index_mut-requires c =
    let lt = queued_within c.args.self.now.queues.items c.args.queue c.requires.some in
    omega (arith, lt)

pub overflow_sub-index_mut : goal.overflow_sub-index_mut
overflow_sub-index_mut c =
    let lt = queued_within c.args.self.now.queues.items c.args.queue c.requires.some in
    let at = read c.args.self.now.queues.items c.args.queue c.index_mut.result.now lt c.index_mut.ensures.value in
    let queued = queued_at c.args.self.now.queues.items c.args.queue c.index_mut.result.now at in
    let some = c.requires.some in
    omega (arith, queued, some)

pub returns-clause-placed : goal.returns-clause-placed
returns-clause-placed c =
    let lt = queued_within c.args.self.now.queues.items c.args.queue c.requires.some in
    let at = read c.args.self.now.queues.items c.args.queue c.index_mut.result.now lt c.index_mut.ensures.value in
    let queued = queued_at c.args.self.now.queues.items c.args.queue c.index_mut.result.now at in
    let some = c.requires.some in
    (dismissed c.args.self.now c.args.queue c.index_mut.result.now c.requires.placed at (omega (arith, queued, some))).0

pub returns-clause-seats : goal.returns-clause-seats
returns-clause-seats c =
    let lt = queued_within c.args.self.now.queues.items c.args.queue c.requires.some in
    let at = read c.args.self.now.queues.items c.args.queue c.index_mut.result.now lt c.index_mut.ensures.value in
    let queued = queued_at c.args.self.now.queues.items c.args.queue c.index_mut.result.now at in
    let some = c.requires.some in
    (dismissed c.args.self.now c.args.queue c.index_mut.result.now c.requires.placed at (omega (arith, queued, some))).1

pub returns-clause-queued : goal.returns-clause-queued
returns-clause-queued c =
    let lt = queued_within c.args.self.now.queues.items c.args.queue c.requires.some in
    let at = read c.args.self.now.queues.items c.args.queue c.index_mut.result.now lt c.index_mut.ensures.value in
    let queued = queued_at c.args.self.now.queues.items c.args.queue c.index_mut.result.now at in
    let some = c.requires.some in
    let now = queued-set_same c.args.self.now.queues.items c.args.queue (record { members = c.index_mut.result.now.members; queued = c.index_mut.result.now.queued - 1 }) lt in
    omega (arith, queued, some, now)

pub returns-clause-elsewhere : goal.returns-clause-elsewhere
returns-clause-elsewhere c = λ elsewhere differ. queued-set_other c.args.self.now.queues.items c.args.queue elsewhere _ differ
