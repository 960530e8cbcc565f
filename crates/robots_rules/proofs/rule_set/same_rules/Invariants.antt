use Rattle.std.proofs.Common.{◌≡◌, take}
use Rattle.robots_rules.proofs.rule_set.same_rules.Given as goal

abbrev pub invariant-loop-i : goal.invariant-loop-i
invariant-loop-i l = take l.i l.rules ≡ take l.i l.others
