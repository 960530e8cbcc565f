use Rattle.std.proofs.Common.{◌∙◌, ◌++◌, ◌∷◌, [], List, ap, sym, map}
use Rattle.robots_rules.specs.Access.{RuleValue}
use Rattle.robots_rules.specs.inner.RuleView.{rule_by}
use Rattle.robots_rules.proofs.KeptLemmas.{kept-push}
use Rattle.robots_rules.proofs.rule.new_rules.Goals as goal

pub loop-rule-preserved-in-Continue-branch-2 : goal.loop-rule-preserved-in-Continue-branch-2
loop-rule-preserved-in-Continue-branch-2 c =
    let told = c.in_ok-is_new.ensures in
    let inv = c.loop-rule.invariant in
    record {
      so = kept-push (map rule_by c.loop-rule.seen.keys) c.loop-rule.yielded c.in-Some.rule (map rule_by c.is_new.new.seen.keys) inv.so told.seen;
      keys = told.seen ∙ (rw c.if-branch.true at told.new) ∙ ap (λ (kept : List RuleValue). kept ++ c.in-Some.rule ∷ []) inv.keys ∙ sym c.in_ok-push.ensures.items;
    }

pub loop-rule-preserved : goal.loop-rule-preserved
loop-rule-preserved c =
    let told = c.in_ok-is_new.ensures in
    let inv = c.loop-rule.invariant in
    record {
      so = kept-push (map rule_by c.loop-rule.seen.keys) c.loop-rule.yielded c.in-Some.rule (map rule_by c.is_new.new.seen.keys) inv.so told.seen;
      keys = told.seen ∙ (rw c.if-branch.false at told.new) ∙ inv.keys;
    }
