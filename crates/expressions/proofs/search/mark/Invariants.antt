-- The states so far have their flags, at each place that looks like this one.
use Rattle.std.proofs.Common.{◌≡◌, ℕ, ◌<◌, List, false, slice_index, slice_index_or}
use Rattle.expressions.specs.inner.Accepting.{accepts, AreNextFlags, IsAlike}
use Rattle.expressions.proofs.search.mark.Given as goal

abbrev pub invariant-loop-state : goal.invariant-loop-state
invariant-loop-state l =
    (other : List ℕ) (place : ℕ) → IsAlike l.nfa l.text l.at other place → AreNextFlags l.nfa other place l.next →
    (k : ℕ) → k < l.state-index → slice_index_or l.here (slice_index l.order k) false ≡ accepts l.nfa other place (slice_index l.order k)
