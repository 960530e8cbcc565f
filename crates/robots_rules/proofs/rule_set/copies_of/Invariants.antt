use Rattle.std.proofs.Common.{◌≡◌, take}
use Rattle.robots_rules.proofs.rule_set.copies_of.Given as goal

abbrev pub invariant-loop-rule : goal.invariant-loop-rule
invariant-loop-rule l = l.copies.items ≡ take l.rule-index l.rules
