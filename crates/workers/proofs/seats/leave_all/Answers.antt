-- Each turn moves what one seat has; at the end no seat is left.
use Rattle.std.proofs.Common.{rules, ◌≡◌, [], ◌∷◌, length, sym, ap, ◌∙◌, arith}
use Rattle.std.specs.Vec.Iter.{into_iter_items}
use Rattle.workers.specs.inner.Seats.{fetchers_of, page_notes, rules_notes}
use Rattle.workers.proofs.MoveLaws.{piece_moved, piece_fits, all_moved, none_left}
use Rattle.workers.proofs.seats.leave_all.Goals as goal

pub push_reserved-requires : goal.push_reserved-requires
push_reserved-requires g c =
    let steps : into_iter_items c.loop-seat.seat-iterator ≡ c.in-Some.seat ∷ into_iter_items c.next.new.self = c.in-Some.ensures.steps.0 in
    omega (arith, ap length steps, c.loop-seat.invariant.room)

pub add_pages-requires : goal.add_pages-requires
add_pages-requires g c =
    let at = c.loop-seat in
    let steps : into_iter_items at.seat-iterator ≡ c.in-Some.seat ∷ into_iter_items c.next.new.self = c.in-Some.ensures.steps.0 in
    let fits = piece_fits at.notes.pages.items c.in-Some.seat.notes.pages.items (page_notes (into_iter_items c.next.new.self)) _ _ _ (ap page_notes steps) at.invariant.pages at.invariant.pages_room in
    omega (arith, fits)

pub add_rules-requires : goal.add_rules-requires
add_rules-requires g c =
    let at = c.loop-seat in
    let steps : into_iter_items at.seat-iterator ≡ c.in-Some.seat ∷ into_iter_items c.next.new.self = c.in-Some.ensures.steps.0 in
    let fits = piece_fits at.notes.rules.items c.in-Some.seat.notes.rules.items (rules_notes (into_iter_items c.next.new.self)) _ _ _ (ap rules_notes steps) at.invariant.rules at.invariant.rules_room in
    omega (arith, fits)

pub loop-seat-preserved : goal.loop-seat-preserved
loop-seat-preserved g c =
    let at = c.loop-seat in
    let seat = c.in-Some.seat in
    let steps : into_iter_items at.seat-iterator ≡ seat ∷ into_iter_items c.next.new.self = c.in-Some.ensures.steps.0 in
    record {
      can_next = search rules;
      is_finite = search rules;
      fetchers = piece_moved at.fetchers.items (seat.fetcher ∷ []) (fetchers_of (into_iter_items c.next.new.self)) _ _ _ (ap fetchers_of steps) c.push_reserved.ensures.items at.invariant.fetchers;
      room = omega (arith, ap length steps, at.invariant.room, c.push_reserved.ensures.len, c.push_reserved.ensures.capacity);
      pages = piece_moved at.notes.pages.items seat.notes.pages.items (page_notes (into_iter_items c.next.new.self)) _ _ _ (ap page_notes steps) c.add_pages.ensures.items at.invariant.pages;
      rules = piece_moved at.notes.rules.items seat.notes.rules.items (rules_notes (into_iter_items c.next.new.self)) _ _ _ (ap rules_notes steps) c.add_rules.ensures.items at.invariant.rules;
      pages_room = omega (arith, at.invariant.pages_room, c.add_pages.ensures.capacity);
      rules_room = omega (arith, at.invariant.rules_room, c.add_rules.ensures.capacity);
    }

pub returns-clause-fetchers : goal.returns-clause-fetchers
returns-clause-fetchers g c =
    let at = c.loop-seat in
    let none = none_left _ (sym at.seat-iterator.rest.ok.0 ∙ c.in-None.ensures.steps.0) in
    all_moved at.fetchers.items _ _ (ap fetchers_of none) at.invariant.fetchers

pub returns-clause-pages : goal.returns-clause-pages
returns-clause-pages g c =
    let at = c.loop-seat in
    let none = none_left _ (sym at.seat-iterator.rest.ok.0 ∙ c.in-None.ensures.steps.0) in
    all_moved at.notes.pages.items _ _ (ap page_notes none) at.invariant.pages

pub returns-clause-rules : goal.returns-clause-rules
returns-clause-rules g c =
    let at = c.loop-seat in
    let none = none_left _ (sym at.seat-iterator.rest.ok.0 ∙ c.in-None.ensures.steps.0) in
    all_moved at.notes.rules.items _ _ (ap rules_notes none) at.invariant.rules
