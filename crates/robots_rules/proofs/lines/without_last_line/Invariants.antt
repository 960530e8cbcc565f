use Rattle.std.proofs.Common.{◌≡◌, length}
use Rattle.std.specs.List.{before_last}
use Rattle.robots_rules.specs.Lines.{is_line_end}
use Rattle.robots_rules.proofs.lines.without_last_line.Given as goal

abbrev pub invariant-loop-rest : goal.invariant-loop-rest
invariant-loop-rest l = before_last is_line_end l.rest ≡ before_last is_line_end l.fn.text

abbrev pub decreases-loop-rest : goal.decreases-loop-rest
decreases-loop-rest l = length l.rest
