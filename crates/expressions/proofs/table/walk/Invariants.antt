-- The number is that of the set of the place that was looked at last, after which no match begins.
use Rattle.std.proofs.Common.{◌≡◌, ◌+◌, ◌<◌, ◌≤◌, false, length}
use Rattle.expressions.specs.inner.Accepting.{AreFlags, begins_from}
use Rattle.expressions.specs.inner.Tables.{set_at}
use Rattle.expressions.proofs.table.walk.Given as goal

abbrev pub invariant-loop-at : goal.invariant-loop-at
invariant-loop-at l = record {
  some : 1 ≤ l.at;
  place : l.at ≤ length l.text;
  number : l.number < length l.table.sets.items;
  flags : AreFlags l.nfa l.text l.at (set_at l.table.sets.items l.number);
  found : begins_from l.nfa l.text (l.at + 1) ≡ false;
}

abbrev pub decreases-loop-at : goal.decreases-loop-at
decreases-loop-at l = l.at
