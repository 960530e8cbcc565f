-- As many copies as turns.
use Rattle.std.proofs.Common.{◌≡◌, replicate}
use Rattle.retriever.proofs.copies.copies_of.Given as goal

abbrev pub invariant-loop : goal.invariant-loop
invariant-loop g l = l.copies.items ≡ replicate l.counter l.site
