-- What is in place of the form, in the table.
use Rattle.std.proofs.Common.{◌∙◌, ap}
use Rattle.std.proofs.lemmas.Result.{IfOk-weaker}
use Rattle.options.specs.Hints.{advice_in, foreign_text, foreign_with}
use Rattle.options.proofs.hint.foreign_text.Goals as goal

pub returns : goal.returns
unfolding foreign_text
returns c =
    let found = c.advice_in.ensures ∙ ap (advice_in c.args.whole.now) c.insteads.ensures in
    IfOk-weaker c.foreign_with.result _ _ (λ text says. says ∙ ap (foreign_with c.args.form.now) found) c.foreign_with.ensures
