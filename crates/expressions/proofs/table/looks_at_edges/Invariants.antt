-- The states so far look at edges.
use Rattle.std.proofs.Common.{◌≡◌, ℕ, ◌<◌}
use Rattle.regex_hir.specs.declared.look.Look.{Look}
use Rattle.regex_nfa.specs.declared.state.State.TheVariants as kinds
use Rattle.regex_nfa.specs.Run.{state_of}
use Rattle.expressions.specs.inner.Tables.{IsEdge}
use Rattle.expressions.proofs.table.looks_at_edges.Given as goal

abbrev pub invariant-loop-id : goal.invariant-loop-id
invariant-loop-id l = (q next : ℕ) (look : Look) → q < l.id → state_of l.nfa q ≡ kinds.Look look next → IsEdge look
