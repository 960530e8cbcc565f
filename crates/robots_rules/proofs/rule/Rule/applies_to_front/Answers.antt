use Rattle.std.proofs.Common.{◌∙◌, sym, ap, arith}
use Rattle.robots_rules.specs.Patterns.{matching_parts}
use Rattle.robots_rules.specs.Access.{RuleValue}
use Rattle.robots_rules.proofs.AccessLemmas.{applies_if}
use Rattle.robots_rules.proofs.rule.Rule.applies_to_front.Goals as goal

pub returns : goal.returns
returns c =
    applies_if c.matches_front.result c.deref.result.now c.args.front.now c.args.self.now (omega arith)
    (c.deref.ensures.value ∙ sym (c.self.invariant.whole) ∙ ap (λ (r : RuleValue). matching_parts r.pattern) c.self.view_is) c.matches_front.ensures
