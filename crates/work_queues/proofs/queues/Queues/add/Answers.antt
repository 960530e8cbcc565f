use Rattle.std.proofs.Common.{◌≡◌, ◌<◌, length, Some, ◌∷◌, ◌++◌, [], refl, sym, ap, ◌∙◌, arith}
use Rattle.work_queues.specs.declared.queues.Queue.{Queue}
use Rattle.work_queues.proofs.QueueLaws.{read}
use Rattle.work_queues.proofs.Additions.{IsAdded, added_placed, added_seats, added_queued}
use Rattle.work_queues.proofs.queues.Queues.add.Goals as goal

is_added : (c : goal.After-push_reserved-2) → IsAdded c.args.self.now (record { queues = Rattle.std.specs.Vec.with_item c.args.self.now.queues c.args.queue (record { members = c.push_reserved.new.self; queued = c.index_mut.result.now.queued }); places = c.push_reserved-2.new.self })
    c.args.queue c.index_mut.result.now (record { members = c.push_reserved.new.self; queued = c.index_mut.result.now.queued }) (record { number = c.len-number.result; label = 0; turn = 0 })
is_added c =
    let room = c.requires.room.within in
    let lt : c.args.queue < length c.args.self.now.queues.items = omega (arith, room) in
    let one : Some c.index.result.now ≡ Some c.index_mut.result.now =
    sym (read c.args.self.now.queues.items c.args.queue c.index.result.now lt c.index.ensures)
    ∙ read c.args.self.now.queues.items c.args.queue c.index_mut.result.now lt c.index_mut.ensures.value in
    let same : c.index.result.now ≡ c.index_mut.result.now = cc in
    let len : length c.index.result.now.members.items ≡ length c.index_mut.result.now.members.items = ap (λ (z : Queue). length z.members.items) same in
    let place : c.len-place.result ≡ length c.index_mut.result.now.members.items = omega (arith, len) in
    record {
      at = read c.args.self.now.queues.items c.args.queue c.index_mut.result.now lt c.index_mut.ensures.value;
      queues = refl;
      members = c.push_reserved.ensures.items;
      queued = refl;
      number = omega arith;
      places = c.push_reserved-2.ensures.items ∙ ap (λ z. c.args.self.now.places.items ++ record { queue = c.args.queue; place = z } ∷ []) place;
    }

pub returns-clause-placed : goal.returns-clause-placed
returns-clause-placed c = added_placed c.args.self.now _ c.args.queue _ _ _ c.requires.placed (is_added c)

pub returns-clause-seats : goal.returns-clause-seats
returns-clause-seats c = added_seats c.args.self.now _ c.args.queue _ _ _ c.requires.placed (is_added c)

pub returns-clause-queued : goal.returns-clause-queued
returns-clause-queued c = added_queued c.args.self.now _ c.args.queue _ _ _ (is_added c)
