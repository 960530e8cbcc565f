-- Each row has the set of the place before, or says that a match begins.
use Rattle.std.proofs.Common.{◌≡◌, ◌+◌, ◌-◌, ◌<◌, ◌∙◌, length, slice_index, sym, ap, subst, arith}
use Rattle.std.proofs.lemmas.Option.{slice_get-get_or}
use Rattle.expressions.specs.inner.Accepting.{AreFlags, begins_from}
use Rattle.expressions.specs.inner.Tables.{set_at}
use Rattle.expressions.proofs.Accepting.{begins-past, begins-first}
use Rattle.expressions.proofs.Tables.{row_begins, row_steps}
use Rattle.expressions.proofs.table.walk.Goals as goal

pub loop-at-init : goal.loop-at-init
loop-at-init c = record {
  some = omega (arith, c.requires.some);
  place = omega arith;
  number = c.requires.table.ends.0;
  flags = c.requires.table.ends.1 c.args.text.now c.requires.some;
  found = begins-past c.args.nfa.now c.args.text.now;
}

pub returns-then-row : goal.returns-then-row
returns-then-row c =
    let at = c.loop-at.at in
    let begun = row_begins c.args.nfa.now c.args.table.now.sets.items c.args.text.now at c.loop-at.number c.row_in-row.result.now c.row_in-row.ensures c.loop-at.invariant.flags c.loop-at.invariant.place c.loop-at.invariant.found in
    sym (begins-first c.args.nfa.now c.args.text.now at c.loop-at.invariant.place (sym c.if-row.true ∙ begun))

pub loop-at-preserved : goal.loop-at-preserved
loop-at-preserved c =
    let nfa = c.args.nfa.now in
    let sets = c.args.table.now.sets.items in
    let text = c.args.text.now in
    let at = c.loop-at.at in
    let row = c.row_in-row.result.now in
    let inside : at - 1 < length text = omega (arith, c.loop-at.invariant.place, c.loop-at-test.true) in
    let after : at ≡ at - 1 + 1 = omega (arith, c.loop-at-test.true) in
    let step = row_steps nfa sets text (at - 1) at c.loop-at.number (slice_index text (at - 1)) row c.requires.table.edges c.row_in-row.ensures c.loop-at.invariant.flags after c.if-row.false (omega (arith, c.loop-at-test.true)) inside
    (omega (arith, c.type_inv.text (at - 1))) (slice_get-get_or text (at - 1) 0 inside) in
    record {
      some = omega (arith, c.loop-at-test.true);
      place = omega (arith, inside);
      number = step.0;
      flags = step.1;
      found = ap (begins_from nfa text) (sym after) ∙ sym (row_begins nfa sets text at c.loop-at.number row c.row_in-row.ensures c.loop-at.invariant.flags c.loop-at.invariant.place c.loop-at.invariant.found) ∙ c.if-row.false;
    }

pub returns-then-row_in : goal.returns-then-row_in
returns-then-row_in c =
    let at = c.loop-at.at in
    let begun = row_begins c.args.nfa.now c.args.table.now.sets.items c.args.text.now at c.loop-at.number c.row_in.result.now c.row_in.ensures c.loop-at.invariant.flags c.loop-at.invariant.place c.loop-at.invariant.found in
    sym (begins-first c.args.nfa.now c.args.text.now at c.loop-at.invariant.place (sym c.if-row_in.true ∙ begun))

pub returns : goal.returns
returns c =
    let at = c.loop-at.at in
    let one : at ≡ 1 = omega (arith, c.loop-at.invariant.some, c.loop-at-test.false) in
    let begun = row_begins c.args.nfa.now c.args.table.now.sets.items c.args.text.now at c.loop-at.number c.row_in.result.now c.row_in.ensures c.loop-at.invariant.flags c.loop-at.invariant.place c.loop-at.invariant.found in (
      c.loop-at.invariant.number,
      subst (λ p. AreFlags c.args.nfa.now c.args.text.now p (set_at c.args.table.now.sets.items c.loop-at.number)) one c.loop-at.invariant.flags,
      ap (begins_from c.args.nfa.now c.args.text.now) (sym one) ∙ sym begun ∙ c.if-row_in.false,
    )
