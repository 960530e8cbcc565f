use Rattle.std.proofs.Common.{◌+◌, sym, ap, ◌∙◌, arith}
use Rattle.work_queues.specs.Queues.{queued_of}
use Rattle.work_queues.proofs.QueueLaws.{queue_within, read, queued_at, queued-set_same, queued-set_other, members_len}
use Rattle.work_queues.proofs.Resizes.{admitted}
use Rattle.work_queues.proofs.queues.Queues.admit.Goals as goal

pub index_mut-requires : goal.index_mut-requires
index_mut-requires c =
    let lt = queue_within c.args.self.now.queues.items c.args.queue (queued_of c.args.self.now.queues.items c.args.queue) c.requires.within in
    omega (arith, lt)

pub overflow_add-index_mut : goal.overflow_add-index_mut
overflow_add-index_mut c =
    let lt = queue_within c.args.self.now.queues.items c.args.queue (queued_of c.args.self.now.queues.items c.args.queue) c.requires.within in
    let at = read c.args.self.now.queues.items c.args.queue c.index_mut.result.now lt c.index_mut.ensures.value in
    let queued = queued_at c.args.self.now.queues.items c.args.queue c.index_mut.result.now at in
    let len = members_len c.args.self.now.queues.items c.args.queue c.index_mut.result.now at in
    let within = c.requires.within in
    omega (arith, queued, len, within)

pub returns-clause-placed : goal.returns-clause-placed
returns-clause-placed c =
    let lt = queue_within c.args.self.now.queues.items c.args.queue (queued_of c.args.self.now.queues.items c.args.queue) c.requires.within in
    let at = read c.args.self.now.queues.items c.args.queue c.index_mut.result.now lt c.index_mut.ensures.value in
    let queued = queued_at c.args.self.now.queues.items c.args.queue c.index_mut.result.now at in
    let within = c.requires.within in
    (admitted c.args.self.now c.args.queue c.index_mut.result.now c.requires.placed at (omega (arith, queued, within))).0

pub returns-clause-seats : goal.returns-clause-seats
returns-clause-seats c =
    let lt = queue_within c.args.self.now.queues.items c.args.queue (queued_of c.args.self.now.queues.items c.args.queue) c.requires.within in
    let at = read c.args.self.now.queues.items c.args.queue c.index_mut.result.now lt c.index_mut.ensures.value in
    let queued = queued_at c.args.self.now.queues.items c.args.queue c.index_mut.result.now at in
    let within = c.requires.within in
    (admitted c.args.self.now c.args.queue c.index_mut.result.now c.requires.placed at (omega (arith, queued, within))).1

pub returns-clause-queued : goal.returns-clause-queued
returns-clause-queued c =
    let lt = queue_within c.args.self.now.queues.items c.args.queue (queued_of c.args.self.now.queues.items c.args.queue) c.requires.within in
    let at = read c.args.self.now.queues.items c.args.queue c.index_mut.result.now lt c.index_mut.ensures.value in
    queued-set_same c.args.self.now.queues.items c.args.queue _ lt ∙ ap (λ z. z + 1) (sym (queued_at c.args.self.now.queues.items c.args.queue c.index_mut.result.now at))

pub returns-clause-elsewhere : goal.returns-clause-elsewhere
returns-clause-elsewhere c = λ elsewhere differ. queued-set_other c.args.self.now.queues.items c.args.queue elsewhere _ differ
