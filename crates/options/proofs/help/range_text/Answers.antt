-- The pieces of a format.
use Rattle.std.proofs.Common.{◌∙◌, codes}
use Rattle.std.specs.Fmt.{decimal}
use Rattle.std.proofs.lemmas.Result.{IfOk-weaker}
use Rattle.options.proofs.TextLemmas.{five}
use Rattle.options.proofs.help.range_text.Goals as goal

pub returns : goal.returns
returns c = IfOk-weaker c.format.result _ _ (λ text says. says ∙ five (codes ", 1 to ") (decimal c.args.most) (codes " (") (decimal c.args.usual) (codes ")")) c.format.ensures.ok
