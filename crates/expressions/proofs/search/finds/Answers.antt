-- If a match begins at a place, one begins at the first or later; if none does, the flags go on.
use Rattle.std.proofs.Common.{◌≡◌, ◌+◌, ◌∙◌, ◌-◌, sym, arith}
use Rattle.expressions.proofs.Accepting.{begins-past, begins-first}
use Rattle.expressions.proofs.Tables.{marks_here}
use Rattle.expressions.proofs.search.finds.Goals as goal

pub loop-at-init : goal.loop-at-init
loop-at-init c = record {
  place = omega arith;
  flags = λ inside. absurd (omega (arith, inside));
  found = sym (begins-past c.args.nfa.now c.args.text.now);
}

pub begins-requires-in-loop-at-clause-flags : goal.begins-requires-in-loop-at-clause-flags
begins-requires-in-loop-at-clause-flags c =
    let nfa = c.args.nfa.now in
    let text = c.args.text.now in
    let at = c.loop-at.at in
    let before : at ≡ at - 1 + 1 = omega (arith, c.loop-at-test.true) in
    let first : at - 1 ≡ at - 2 + 1 = omega (arith, c.loop-at-test.true) in
    marks_here nfa text (at - 2) (at - 1) c.mark.new.here c.mark-in-loop-at.new.here first c.mark-in-loop-at.ensures.flags
    (λ inside. marks_here nfa text (at - 1) at c.loop-at.odd c.mark.new.here before c.mark.ensures.flags c.loop-at.invariant.flags)

pub loop-at-preserved : goal.loop-at-preserved
loop-at-preserved c = record {
  place = omega (arith, c.loop-at.invariant.place);
  flags = λ inside.
      (let nfa = c.args.nfa.now in
      let text = c.args.text.now in
      let at = c.loop-at.at in
      let before : at ≡ at - 1 + 1 = omega (arith, c.loop-at-test.true) in
      let first : at - 1 ≡ at - 2 + 1 = omega (arith, c.loop-at-test.true) in
      marks_here nfa text (at - 2) (at - 1) c.mark.new.here c.mark-in-loop-at.new.here first c.mark-in-loop-at.ensures.flags
      (λ inside. marks_here nfa text (at - 1) at c.loop-at.odd c.mark.new.here before c.mark.ensures.flags c.loop-at.invariant.flags));
  found = sym c.if-begins-2.false ∙ c.begins-in-loop-at.ensures;
}

pub begins-requires-2-clause-flags : goal.begins-requires-2-clause-flags
begins-requires-2-clause-flags c =
    marks_here c.args.nfa.now c.args.text.now 0 c.loop-at.at c.loop-at.odd c.mark-2.new.here (omega arith) c.mark-2.ensures.flags c.loop-at.invariant.flags

pub returns-then-begins : goal.returns-then-begins
returns-then-begins c =
    begins-first c.args.nfa.now c.args.text.now (c.loop-at.at - 1) (omega (arith, c.loop-at.invariant.place, c.loop-at-test.true)) (sym c.if-begins.true ∙ c.begins.ensures)

pub returns-then-begins-2 : goal.returns-then-begins-2
returns-then-begins-2 c =
    begins-first c.args.nfa.now c.args.text.now (c.loop-at.at - 2) (omega (arith, c.loop-at.invariant.place, c.loop-at-test.true)) (sym c.if-begins-2.true ∙ c.begins-in-loop-at.ensures)
