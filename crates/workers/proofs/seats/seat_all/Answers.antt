-- Each turn seats one fetcher, without notes; at the end no fetcher is left.
use Rattle.std.proofs.Common.{rules, ◌≡◌, [], ◌∷◌, length, sym, ap, ◌∙◌, arith}
use Rattle.std.specs.Vec.Iter.{into_iter_items}
use Rattle.workers.specs.declared.worker.Seat.{Seat}
use Rattle.workers.specs.inner.Seats.{fetchers_of}
use Rattle.workers.proofs.MoveLaws.{piece_moved, all_moved, none_left, none_added, one_added, numbered_more}
use Rattle.workers.proofs.seats.seat_all.Goals as goal

pub push_reserved-requires : goal.push_reserved-requires
push_reserved-requires g c =
    let steps : into_iter_items c.loop-fetcher.fetcher-iterator ≡ c.in-Some.fetcher ∷ into_iter_items c.next.new.self = c.in-Some.ensures.steps.0 in
    omega (arith, ap length steps, c.loop-fetcher.invariant.room)

pub loop-fetcher-preserved : goal.loop-fetcher-preserved
loop-fetcher-preserved g c =
    let at = c.loop-fetcher in
    let seats = c.push_reserved.new.self.items in
    let seat : Seat g.row.F.Denot g.row.B.Denot = record { number = c.len-number.result; fetcher = c.in-Some.fetcher; notes = c.new.result } in
    let steps : into_iter_items at.fetcher-iterator ≡ c.in-Some.fetcher ∷ into_iter_items c.next.new.self = c.in-Some.ensures.steps.0 in
    record {
      can_next = search rules;
      is_finite = search rules;
      fetchers = piece_moved (fetchers_of at.seats.items) (c.in-Some.fetcher ∷ []) (into_iter_items c.next.new.self) _ _ _ steps
          (one_added at.seats.items seats seat (λ s. s.fetcher) c.push_reserved.ensures.items) at.invariant.fetchers;
      numbers = numbered_more at.seats.items seats seat c.push_reserved.ensures.items (omega arith) at.invariant.numbers;
      few = omega (arith, ap length steps, at.invariant.few, c.push_reserved.ensures.len);
      pages = none_added at.seats.items seats seat (λ s. s.notes.pages.items) c.push_reserved.ensures.items c.new.ensures.pages at.invariant.pages;
      rules = none_added at.seats.items seats seat (λ s. s.notes.rules.items) c.push_reserved.ensures.items c.new.ensures.rules at.invariant.rules;
      room = omega (arith, ap length steps, at.invariant.room, c.push_reserved.ensures.len, c.push_reserved.ensures.capacity);
    }

pub returns-clause-fetchers : goal.returns-clause-fetchers
returns-clause-fetchers g c =
    let at = c.loop-fetcher in
    let none = none_left _ (sym at.fetcher-iterator.rest.ok.0 ∙ c.in-None.ensures.steps.0) in
    all_moved (fetchers_of at.seats.items) _ _ none at.invariant.fetchers

pub returns-clause-numbers : goal.returns-clause-numbers
returns-clause-numbers g c = c.loop-fetcher.invariant.numbers

pub returns-clause-pages : goal.returns-clause-pages
returns-clause-pages g c = c.loop-fetcher.invariant.pages

pub returns-clause-rules : goal.returns-clause-rules
returns-clause-rules g c = c.loop-fetcher.invariant.rules
