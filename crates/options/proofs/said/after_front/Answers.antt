-- The text begins with the front, or it doesn't.
use Rattle.options.proofs.WordLemmas.{after_front-from}
use Rattle.options.proofs.said.after_front.Goals as goal

pub returns : goal.returns
returns c = after_front-from c.args.front.now c.args.text.now c.strip_prefix.result c.strip_prefix.ensures.cases
