-- The pieces of a format.
use Rattle.std.proofs.Common.{◌∙◌, codes}
use Rattle.std.proofs.lemmas.Result.{IfOk-weaker}
use Rattle.options.proofs.TextLemmas.{five}
use Rattle.options.proofs.hint.advised_text.Goals as goal

pub returns : goal.returns
returns c =
    IfOk-weaker c.format.result _ _ (λ text says. says ∙ five (codes ": ") c.args.form.now (codes " (an option of Wget that wgetr doesn't have: ") c.args.advice.now (codes ")")) c.format.ensures.ok
