use Rattle.std.proofs.Common.{◌≡◌, drop, map}
use Rattle.robots_rules.specs.Groups.{names_us}
use Rattle.robots_rules.specs.inner.LineView.{line_value}
use Rattle.robots_rules.proofs.GroupLemmas.{some_agent}
use Rattle.robots_rules.proofs.groups.names_this_agent.Given as goal

abbrev pub invariant-loop-line : goal.invariant-loop-line
invariant-loop-line l = some_agent names_us (map line_value (drop l.line-index l.lines)) ≡ some_agent names_us (map line_value l.lines)
