-- The flags are those of the place that was looked at last, from which on no match begins.
use Rattle.std.proofs.Common.{◌≡◌, ◌+◌, ◌≤◌, false, length}
use Rattle.expressions.specs.inner.Accepting.{AreFlags, begins_from}
use Rattle.expressions.proofs.search.finds.Given as goal

abbrev pub invariant-loop-at : goal.invariant-loop-at
invariant-loop-at l = record {
  place : l.at ≤ length l.text + 1;
  flags : l.at ≤ length l.text → AreFlags l.nfa l.text l.at l.odd;
  found : false ≡ begins_from l.nfa l.text l.at;
}

abbrev pub decreases-loop-at : goal.decreases-loop-at
decreases-loop-at l = l.at
