use Rattle.std.proofs.Common.{ℕ, ◌<◌}
use Rattle.frontier_core.specs.inner.TableCalls.{key_numbered}
use Rattle.frontier_core.specs.Invariants.{IsStuck}
use Rattle.frontier_core.specs.Plans.{policy}
use Rattle.frontier_core.proofs.board.Board.is_overfull.Given as goal

abbrev pub invariant-loop-at : goal.invariant-loop-at
invariant-loop-at l = (i : ℕ) → i < l.at → (d k : ℕ) → IsStuck (policy l.plan) l.self d (key_numbered l.self.entries i) k → ⊥
