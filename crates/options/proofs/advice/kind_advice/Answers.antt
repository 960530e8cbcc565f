-- The text of what is accepted is the one that is meant.
use Rattle.std.proofs.Common.{◌∙◌, ap}
use Rattle.options.specs.Advice.{told_of_text}
use Rattle.options.proofs.advice.kind_advice.Goals as goal

pub returns-in-Some : goal.returns-in-Some
returns-in-Some c = ap (told_of_text c.args.kind) c.in-Some.ensures

pub returns-in-None : goal.returns-in-None
returns-in-None c = c.asked_advice.ensures ∙ ap (told_of_text c.args.kind) c.in-None.ensures
