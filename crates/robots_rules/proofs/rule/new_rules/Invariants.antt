use Rattle.std.proofs.Common.{◌≡◌, [], map}
use Rattle.std.specs.Prelude.{fold}
use Rattle.robots_rules.specs.Groups.{with_rule}
use Rattle.robots_rules.specs.inner.RuleView.{rule_by}
use Rattle.robots_rules.proofs.rule.new_rules.Given as goal

abbrev pub invariant-loop-rule : goal.invariant-loop-rule
invariant-loop-rule l =
    record {
      so : map rule_by l.seen.keys ≡ fold with_rule [] l.yielded;
      keys : map rule_by l.seen.keys ≡ l.kept.items;
    }
