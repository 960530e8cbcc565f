-- The edges that were compared are equal.
use Rattle.std.proofs.Common.{◌≡◌, length, take}
use Rattle.fetcher.proofs.edge.same_edges.Given as goal

abbrev pub invariant-loop-k : goal.invariant-loop-k
invariant-loop-k l = (length l.edges ≡ length l.others) × (take l.k l.edges ≡ take l.k l.others)
