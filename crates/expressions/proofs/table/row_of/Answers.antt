-- One cell more is right, and the others stay so.
use Rattle.std.proofs.Common.{◌<◌, ◌≤◌, ◌∙◌, false, length, vec_len, slice_index_or, sym, ap, subst, arith, length-set}
use Rattle.expressions.specs.inner.Tables.{set_at}
use Rattle.expressions.proofs.Tables.{cells_more, more_trans}
use Rattle.expressions.proofs.table.row_of.Goals as goal

pub is_begun-begins-requires : goal.is_begun-begins-requires
is_begun-begins-requires c =
    subst (λ s. vec_len c.args.nfa.now.states ≤ length s) (sym (c.set_of.ensures ∙ ap (λ s. set_at s c.args.from) c.deref.ensures.value))
    (c.requires.sets c.args.from (omega (arith, c.requires.from, c.args.sets.now.ok)))

pub loop-byte-preserved : goal.loop-byte-preserved
loop-byte-preserved c =
    let before = c.loop-byte.sets.items in
    let after = c.cell.new.sets.items in
    let cell = rw c.in-Some.is at c.in_ok-number.ensures.cell in
    record {
      more = more_trans c.args.sets.now.items before after c.loop-byte.invariant.more c.cell.ensures.more;
      sets = c.cell.ensures.sets;
      few = omega (arith, c.cell.ensures.few, c.cell.new.sets.ok);
      room = length-set c.loop-byte.before c.loop-byte.byte c.in-Some.number ∙ c.loop-byte.invariant.room;
      cells = cells_more c.args.nfa.now before after c.args.from c.loop-byte.byte c.in-Some.number c.loop-byte.before c.cell.ensures.more
          (omega (arith, c.requires.from, c.args.sets.now.ok, c.loop-byte.invariant.more.long)) (omega (arith, c.loop-byte-test.true, c.loop-byte.invariant.room)) cell c.loop-byte.invariant.cells;
    }

pub returns-clause-row : goal.returns-clause-row
returns-clause-row c =
    let inside : c.args.from < length c.args.sets.now.items = omega (arith, c.requires.from, c.args.sets.now.ok) in
    record {
      begins = c.is_begun-begins.ensures
          ∙ ap (λ s. slice_index_or s c.args.nfa.now.start false) (c.set_of.ensures ∙ ap (λ s. set_at s c.args.from) c.deref.ensures.value ∙ sym (c.loop-byte.invariant.more.same c.args.from inside));
      cells = λ goes byte small. c.loop-byte.invariant.cells byte (omega (arith, small, c.loop-byte-test.false));
    }
