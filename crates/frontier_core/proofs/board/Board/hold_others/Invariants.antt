use Rattle.std.proofs.Common.{◌≡◌, ◌+◌, ◌≤◌, drop, length, Some}
use Rattle.frontier_core.specs.Tables.{Text, lookup}
use Rattle.frontier_core.specs.Machine.{Slot, Waiting, slot, with_starts}
use Rattle.frontier_core.proofs.board.Board.hold_others.Given as goal

abbrev pub invariant-loop-start : goal.invariant-loop-start
invariant-loop-start l = record {
  rest : with_starts l.self.entries (drop l.start-index l.others) ≡ with_starts l.fn.self.entries l.others;
  origins : l.self.origins ≡ l.fn.self.origins;
  cause : l.self.cause ≡ l.fn.self.cause;
  waits : (u : Text) (held : Slot) → lookup l.self.entries u ≡ Some held → held ≡ slot 0 Waiting;
  few : length l.self.entries ≤ length l.fn.self.entries + l.start-index;
}
