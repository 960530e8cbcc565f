-- Each turn moves one note; at the end none is left.
use Rattle.std.proofs.Common.{◌≡◌, ◌∷◌, [], length, sym, ap, ◌∙◌, arith}
use Rattle.std.specs.Vec.Iter.{into_iter_items}
use Rattle.workers.proofs.MoveLaws.{piece_moved, all_moved, none_left}
use Rattle.workers.proofs.seats.add_pages.Goals as goal

pub push_reserved-requires : goal.push_reserved-requires
push_reserved-requires g c =
    let steps : into_iter_items c.loop-note.note-iterator ≡ c.in-Some.note ∷ into_iter_items c.next.new.self = c.in-Some.ensures.steps.0 in
    omega (arith, ap length steps, c.loop-note.invariant.1)

pub loop-note-preserved : goal.loop-note-preserved
loop-note-preserved g c =
    let at = c.loop-note in
    let steps : into_iter_items at.note-iterator ≡ c.in-Some.note ∷ into_iter_items c.next.new.self = c.in-Some.ensures.steps.0 in (
      piece_moved at.all.items (c.in-Some.note ∷ []) (into_iter_items c.next.new.self) _ _ _ steps c.push_reserved.ensures.items at.invariant.0,
      omega (arith, ap length steps, at.invariant.1, c.push_reserved.ensures.len, c.push_reserved.ensures.capacity),
      c.push_reserved.ensures.capacity ∙ at.invariant.2,
    )

pub returns : goal.returns
returns g c =
    let at = c.loop-note in
    let none = none_left _ (sym at.note-iterator.rest.ok.0 ∙ c.in-None.ensures.steps.0) in
    record {
      items = all_moved at.all.items _ _ none at.invariant.0;
      capacity = at.invariant.2;
    }
