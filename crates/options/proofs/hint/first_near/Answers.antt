-- An option is near, or the next is looked at.
use Rattle.std.proofs.Common.{◌∙◌, sym}
use Rattle.options.proofs.HintLemmas.{first_near-end, first_near-later}
use Rattle.options.proofs.hint.first_near.Goals as goal

pub loop-row-preserved : goal.loop-row-preserved
loop-row-preserved c =
    c.loop-row.invariant ∙ first_near-later c.args.most c.args.name.now c.args.rows.now c.loop-row.row-index _ c.loop-row-test.true (sym c.in_ok-is_near.ensures ∙ c.if-branch.false)

pub returns : goal.returns
returns c = sym (c.loop-row.invariant ∙ first_near-end c.args.most c.args.name.now c.args.rows.now c.loop-row.row-index c.loop-row-test.false)
