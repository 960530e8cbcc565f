-- The rows so far are right, and sets were added alone.
use Rattle.std.proofs.Common.{◌-◌, ◌≤◌, length}
use Rattle.expressions.specs.inner.Tables.{AreRows, AreSets, IsMore}
use Rattle.expressions.proofs.table.rows_of.Given as goal

abbrev pub invariant-loop-alloc : goal.invariant-loop-alloc
invariant-loop-alloc l = record {
  more : IsMore l.initial.sets.items l.sets.items;
  sets : AreSets l.nfa l.sets.items;
  few : length l.sets.items ≤ l.most;
  count : length l.rows.items ≤ length l.sets.items;
  rows : AreRows l.nfa l.sets.items l.rows.items;
}

abbrev pub decreases-loop-alloc : goal.decreases-loop-alloc
decreases-loop-alloc l = l.most - length l.rows.items
