-- What the words that are left say is said after what was said.
use Rattle.std.proofs.Common.{◌≡◌, ◌++◌, drop, map}
use Rattle.options.specs.Said.{said_from, sayings}
use Rattle.options.specs.inner.Said.{saying_in, state_in}
use Rattle.options.proofs.said.sayings.Given as goal

abbrev pub invariant-loop-word : goal.invariant-loop-word
invariant-loop-word l = map saying_in l.said.items ++ said_from (state_in l.state) (map (λ word. word.now) (drop l.word-index l.words)) ≡ sayings (map (λ word. word.now) l.words)
