use Rattle.std.proofs.Common.{ℕ, ◌↔◌, ◌∙◌, IsTrue, List, ap, subst}
use Rattle.robots_rules.specs.Access.{RulesAllow, rules_allow}
use Rattle.robots_rules.proofs.rule_set.is_allowed_by.Goals as goal

pub returns-in-Some-clause-value : goal.returns-in-Some-clause-value
returns-in-Some-clause-value c = c.rules_allow.ensures.value ∙ ap (rules_allow c.args.rules.now) c.in-Some.ensures.written.1

pub returns-in-Some-clause-allowed : goal.returns-in-Some-clause-allowed
returns-in-Some-clause-allowed c =
    subst (λ (text : List ℕ). IsTrue c.rules_allow.result ↔ RulesAllow c.args.rules.now text) c.in-Some.ensures.written.1 c.rules_allow.ensures.allowed

pub returns-in-None-clause-value : goal.returns-in-None-clause-value
returns-in-None-clause-value c = c.rules_allow-in-None.ensures.value ∙ ap (rules_allow c.args.rules.now) c.path.ensures

pub returns-in-None-clause-allowed : goal.returns-in-None-clause-allowed
returns-in-None-clause-allowed c =
    subst (λ (text : List ℕ). IsTrue c.rules_allow-in-None.result ↔ RulesAllow c.args.rules.now text) c.path.ensures c.rules_allow-in-None.ensures.allowed
