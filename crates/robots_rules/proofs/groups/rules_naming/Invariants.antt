use Rattle.std.proofs.Common.{◌≡◌, ◌++◌, map, drop, true, false}
use Rattle.robots_rules.specs.Groups.{rule_of}
use Rattle.robots_rules.specs.inner.LineView.{line_value}
use Rattle.robots_rules.specs.inner.AudienceView.{names_one}
use Rattle.robots_rules.proofs.GroupLemmas.{collect}
use Rattle.robots_rules.proofs.groups.rules_naming.Given as goal

abbrev pub invariant-loop-line : goal.invariant-loop-line
invariant-loop-line l =
    l.rules.items ++ map rule_of (collect (names_one l.audience) l.is_ours l.is_behind_rule (map line_value (drop l.line-index l.lines)))
    ≡ map rule_of (collect (names_one l.audience) false true (map line_value l.lines))
