-- The words so far and those to come are all that were given.
use Rattle.std.proofs.Common.{◌≡◌, ◌++◌}
use Rattle.std.specs.Vec.Iter.{into_iter_items}
use Rattle.retriever.proofs.program.all_words.Given as goal

abbrev pub invariant-loop-word : goal.invariant-loop-word
invariant-loop-word l = l.all.items ++ into_iter_items l.word-iterator ≡ into_iter_items l.initial.word-iterator
