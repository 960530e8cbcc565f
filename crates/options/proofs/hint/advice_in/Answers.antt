-- An option has the form, or the next is looked at.
use Rattle.std.proofs.Common.{◌∙◌, sym}
use Rattle.options.proofs.HintLemmas.{advice_in-end, advice_in-later}
use Rattle.options.proofs.hint.advice_in.Goals as goal

pub loop-row-preserved : goal.loop-row-preserved
loop-row-preserved c =
    c.loop-row.invariant ∙ advice_in-later c.args.form.now c.args.rows.now c.loop-row.row-index _ c.loop-row-test.true (sym c.is_form_of.ensures ∙ c.if-is_form_of.false)

pub returns : goal.returns
returns c = sym (c.loop-row.invariant ∙ advice_in-end c.args.form.now c.args.rows.now c.loop-row.row-index c.loop-row-test.false)
