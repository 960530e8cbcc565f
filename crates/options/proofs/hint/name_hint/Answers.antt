-- The rows that the code has are the table.
use Rattle.std.proofs.Common.{◌∙◌, ap}
use Rattle.std.proofs.lemmas.Result.{IfOk-weaker}
use Rattle.options.specs.Hints.{name_hint, near_text, nearest}
use Rattle.options.proofs.hint.name_hint.Goals as goal

pub returns : goal.returns
unfolding name_hint
returns c =
    IfOk-weaker
    c.near_text.result
    _
    _
    (λ text says.
    says
    ∙ ap (near_text c.args.form.now) c.in_ok-nearest.ensures
    ∙ ap (λ rows. near_text c.args.form.now (nearest c.args.name.now rows)) c.option_rows.ensures)
    c.near_text.ensures
