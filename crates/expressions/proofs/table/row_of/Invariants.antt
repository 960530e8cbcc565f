-- The cells so far are right, and sets were added alone.
use Rattle.std.proofs.Common.{◌≡◌, ℕ, ◌<◌, ◌≤◌, length, slice_index}
use Rattle.expressions.specs.inner.Tables.{AreSets, IsCell, IsMore}
use Rattle.expressions.proofs.table.row_of.Given as goal

abbrev pub invariant-loop-byte : goal.invariant-loop-byte
invariant-loop-byte l = record {
  more : IsMore l.initial.sets.items l.sets.items;
  sets : AreSets l.nfa l.sets.items;
  few : length l.sets.items ≤ l.most;
  room : length l.before ≡ 256;
  cells : (b : ℕ) → b < l.byte → IsCell l.nfa l.sets.items l.from b (slice_index l.before b);
}
