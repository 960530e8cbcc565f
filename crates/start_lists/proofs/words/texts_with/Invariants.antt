-- The starts so far.
use Rattle.std.proofs.Common.{◌≡◌, map, take}
use Rattle.start_lists.proofs.words.texts_with.Given as goal

abbrev pub invariant-loop-start : goal.invariant-loop-start
invariant-loop-start l = map (λ text. text.now) l.all.items ≡ take l.start-index l.starts
