use Rattle.std.proofs.Common.{ℕ, ◌<◌}
use Rattle.frontier_core.specs.inner.TableCalls.{key_numbered}
use Rattle.frontier_core.specs.Invariants.{IsStuck}
use Rattle.frontier_core.specs.Plans.{policy}
use Rattle.frontier_core.proofs.board.Board.is_stuck.Given as goal

abbrev pub invariant-loop-k : goal.invariant-loop-k
invariant-loop-k l = (j : ℕ) → j < l.k → (d : ℕ) → IsStuck (policy l.plan) l.self d (key_numbered l.self.entries l.at) j → ⊥
