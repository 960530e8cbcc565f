use Rattle.std.proofs.Common.{◌≡◌, length}
use Rattle.robots_rules.specs.Lines.{trim_start}
use Rattle.robots_rules.proofs.lines.trim_start.Given as goal

abbrev pub invariant-loop-rest : goal.invariant-loop-rest
invariant-loop-rest l = trim_start l.rest ≡ trim_start l.fn.text

abbrev pub decreases-loop-rest : goal.decreases-loop-rest
decreases-loop-rest l = length l.rest
