use Rattle.std.proofs.Common.{◌≡◌, ◌≤◌, ◌-◌, ◌++◌, length, take, drop}
use Rattle.entry_lines.specs.Lines.{text, recovered, lines_from}
use Rattle.entry_lines.proofs.lines.whole_len.Given as goal

-- the whole lines so far, and those of the rest after what is begun
abbrev pub invariant-loop-i : goal.invariant-loop-i
invariant-loop-i l = record {
  within : l.i ≤ length l.bytes;
  before : l.whole ≤ l.i;
  read : text (recovered l.bytes) ≡ take l.whole l.bytes ++ text (lines_from (drop l.whole (take l.i l.bytes)) (drop l.i l.bytes));
}

abbrev pub decreases-loop-i : goal.decreases-loop-i
decreases-loop-i l = length l.bytes - l.i
