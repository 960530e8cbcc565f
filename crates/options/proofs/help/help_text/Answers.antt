-- The rows that the code has are the table.
use Rattle.std.proofs.Common.{◌∙◌, ◌++◌, ap}
use Rattle.std.proofs.lemmas.Result.{IfOk-weaker}
use Rattle.options.specs.Help.{help_text, rows_text}
use Rattle.options.specs.declared.help.TheConstants.{FOOT, HEAD}
use Rattle.options.proofs.help.help_text.Goals as goal

pub returns : goal.returns
unfolding help_text
returns c = IfOk-weaker c.between.result _ _ (λ text says. says ∙ ap (λ rows. HEAD.now ++ rows_text rows ++ FOOT.now) c.option_rows.ensures) c.between.ensures
