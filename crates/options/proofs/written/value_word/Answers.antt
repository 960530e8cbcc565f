-- The pieces of a format.
use Rattle.std.proofs.Common.{◌∙◌, codes}
use Rattle.std.proofs.lemmas.Result.{IfOk-weaker}
use Rattle.options.proofs.TextLemmas.{four}
use Rattle.options.proofs.written.value_word.Goals as goal

pub returns : goal.returns
returns c = IfOk-weaker c.format.result _ _ (λ text says. says ∙ four (codes "--") c.args.name.now (codes "=") c.args.value.now) c.format.ensures.ok
