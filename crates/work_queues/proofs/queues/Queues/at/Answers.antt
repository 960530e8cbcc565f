use Rattle.std.proofs.Common.{◌<◌, length, arith}
use Rattle.work_queues.proofs.QueueLaws.{number_read, member_within, queued_past, seat_queued}
use Rattle.work_queues.proofs.queues.Queues.at.Goals as goal

pub returns-then-queue-len-clause-none : goal.returns-then-queue-len-clause-none
returns-then-queue-len-clause-none c =
    let none = queued_past c.args.self.now.queues.items c.args.queue (omega arith) in
    omega (arith, none)

pub index-requires-2 : goal.index-requires-2
index-requires-2 c =
    let value = c.queued.ensures.value in
    let within = c.queued.ensures.within in
    let lt : c.args.queue < length c.args.self.now.queues.items = omega arith in
    let inside = member_within c.args.self.now.queues.items c.args.queue c.args.place c.index.result.now lt c.index.ensures (omega (arith, value, within)) in
    omega (arith, inside)

pub returns-clause-number : goal.returns-clause-number
returns-clause-number c =
    let value = c.queued.ensures.value in
    let within = c.queued.ensures.within in
    let lt : c.args.queue < length c.args.self.now.queues.items = omega arith in
    number_read c.args.self.now.queues.items c.args.queue c.args.place c.index.result.now c.index-2.result.now lt c.index.ensures (omega (arith, value, within)) c.index-2.ensures

pub returns-clause-some : goal.returns-clause-some
returns-clause-some c =
    let value = c.queued.ensures.value in
    let within = c.queued.ensures.within in
    let lt : c.args.queue < length c.args.self.now.queues.items = omega arith in
    seat_queued c.args.self.now c.args.queue c.args.place c.index-2.result.now.number c.requires.placed (omega (arith, value))
    (number_read c.args.self.now.queues.items c.args.queue c.args.place c.index.result.now c.index-2.result.now lt c.index.ensures (omega (arith, value, within)) c.index-2.ensures)
