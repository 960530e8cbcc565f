-- What the room was made for stays as it is.
use Rattle.std.proofs.Common.{refl}
use Rattle.work_queues.proofs.SetLaws.{room_keeps, as_many}
use Rattle.work_queues.proofs.lists.Lists.reserve.Goals as goal

pub returns-in_err-reserve-2-clause-kept : goal.returns-in_err-reserve-2-clause-kept
returns-in_err-reserve-2-clause-kept c =
    let kept = c.requires.kept in
    room_keeps c.args.self.now _ kept refl c.reserve.ensures.items
    c.in_err-reserve-2.ensures.pool c.in_err-reserve-2.ensures.seats (as_many _ _ c.in_err-reserve-2.ensures.origins)
    kept.parked.pool refl (as_many _ _ refl)
    kept.due_placed refl refl

pub returns-in_err-reserve-3-clause-kept : goal.returns-in_err-reserve-3-clause-kept
returns-in_err-reserve-3-clause-kept c =
    let kept = c.requires.kept in
    room_keeps c.args.self.now _ kept refl c.reserve.ensures.items
    c.in_ok-reserve-2.ensures.pool c.in_ok-reserve-2.ensures.seats (as_many _ _ c.in_ok-reserve-2.ensures.origins)
    c.in_err-reserve-3.ensures.pool c.in_err-reserve-3.ensures.seats (as_many _ _ c.in_err-reserve-3.ensures.origins)
    kept.due_placed refl refl

pub returns-in_err-reserve-4-clause-kept : goal.returns-in_err-reserve-4-clause-kept
returns-in_err-reserve-4-clause-kept c =
    let kept = c.requires.kept in
    room_keeps c.args.self.now _ kept refl c.reserve.ensures.items
    c.in_ok-reserve-2.ensures.pool c.in_ok-reserve-2.ensures.seats (as_many _ _ c.in_ok-reserve-2.ensures.origins)
    c.in_ok-reserve-3.ensures.pool c.in_ok-reserve-3.ensures.seats (as_many _ _ c.in_ok-reserve-3.ensures.origins)
    c.in_err-reserve-4.ensures.same.placed c.in_err-reserve-4.ensures.same.seats c.in_err-reserve-4.ensures.same.queues

pub returns-clause-kept : goal.returns-clause-kept
returns-clause-kept c =
    let kept = c.requires.kept in
    room_keeps c.args.self.now _ kept refl c.reserve.ensures.items
    c.in_ok-reserve-2.ensures.pool c.in_ok-reserve-2.ensures.seats (as_many _ _ c.in_ok-reserve-2.ensures.origins)
    c.in_ok-reserve-3.ensures.pool c.in_ok-reserve-3.ensures.seats (as_many _ _ c.in_ok-reserve-3.ensures.origins)
    c.in_ok-reserve-4.ensures.same.placed c.in_ok-reserve-4.ensures.same.seats c.in_ok-reserve-4.ensures.same.queues
