use Rattle.std.proofs.Common.{ℕ, ◌<◌, ◌+◌, [], map, get_or}
use Rattle.address.specs.AddressOrder.{IsBefore}
use Rattle.workers.proofs.comparison.ascend.Given as goal

abbrev pub invariant-loop-k : goal.invariant-loop-k
invariant-loop-k g l = (j : ℕ) → j + 1 < l.k → IsBefore (get_or (map g.T.Named.text_of l.things) j []) (get_or (map g.T.Named.text_of l.things) (j + 1) [])
