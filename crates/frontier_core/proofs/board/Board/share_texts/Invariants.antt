-- The outcome stays equal.
use Rattle.std.proofs.Common.{◌≡◌}
use Rattle.frontier_core.proofs.board.Board.share_texts.Given as goal

abbrev pub invariant-loop-k : goal.invariant-loop-k
invariant-loop-k l = l.outcome ≡ l.fn.outcome
