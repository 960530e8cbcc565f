-- Each turn moves the fetcher of one seat; at the end no seat is left.
use Rattle.std.proofs.Common.{rules, ◌≡◌, [], ◌∷◌, length, sym, ap, ◌∙◌, arith}
use Rattle.std.specs.Vec.Iter.{into_iter_items}
use Rattle.workers.specs.inner.Seats.{fetchers_of}
use Rattle.workers.proofs.MoveLaws.{piece_moved, all_moved, none_left}
use Rattle.workers.proofs.seats.leave_bare.Goals as goal

pub push_reserved-requires : goal.push_reserved-requires
push_reserved-requires g c =
    let steps : into_iter_items c.loop-seat.seat-iterator ≡ c.in-Some.seat ∷ into_iter_items c.next.new.self = c.in-Some.ensures.steps.0 in
    omega (arith, ap length steps, c.loop-seat.invariant.room)

pub loop-seat-preserved : goal.loop-seat-preserved
loop-seat-preserved g c =
    let at = c.loop-seat in
    let seat = c.in-Some.seat in
    let steps : into_iter_items at.seat-iterator ≡ seat ∷ into_iter_items c.next.new.self = c.in-Some.ensures.steps.0 in
    record {
      can_next = search rules;
      is_finite = search rules;
      fetchers = piece_moved at.fetchers.items (seat.fetcher ∷ []) (fetchers_of (into_iter_items c.next.new.self)) _ _ _ (ap fetchers_of steps) c.push_reserved.ensures.items at.invariant.fetchers;
      room = omega (arith, ap length steps, at.invariant.room, c.push_reserved.ensures.len, c.push_reserved.ensures.capacity);
    }

pub returns : goal.returns
returns g c =
    let at = c.loop-seat in
    let none = none_left _ (sym at.seat-iterator.rest.ok.0 ∙ c.in-None.ensures.steps.0) in
    all_moved at.fetchers.items _ _ (ap fetchers_of none) at.invariant.fetchers
