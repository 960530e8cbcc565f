-- Nothing is said before the first word.
use Rattle.std.proofs.Common.{◌++◌, ap, map}
use Rattle.options.specs.declared.said.State.TheVariants as state
use Rattle.options.specs.Said.{said_from, sayings}
use Rattle.options.specs.inner.Said.{saying_in}
use Rattle.options.proofs.said.sayings.Goals as goal

pub loop-word-init : goal.loop-word-init
unfolding sayings
loop-word-init c = ap (λ xs. map saying_in xs ++ said_from state.Free (map (λ word. word.now) c.args.words.now)) c.new-said.ensures.items
