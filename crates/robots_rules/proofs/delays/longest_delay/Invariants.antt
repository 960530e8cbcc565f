use Rattle.std.proofs.Common.{◌≡◌, drop, map, true, false}
use Rattle.robots_rules.specs.inner.AudienceView.{names_one}
use Rattle.robots_rules.specs.inner.DelayTally.{file_line_value, longest_from, tallied}
use Rattle.robots_rules.proofs.delays.longest_delay.Given as goal

abbrev pub invariant-loop-line : goal.invariant-loop-line
invariant-loop-line l =
    tallied (names_one l.audience) l.tally (map file_line_value (drop l.line-index l.lines))
    ≡ longest_from (names_one l.audience) false true 0 (map file_line_value l.lines)
