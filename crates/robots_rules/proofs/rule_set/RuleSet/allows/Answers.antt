use Rattle.std.proofs.Common.{◌++◌, ◌==◌, List, length, refl, sym, ap, ◌∙◌, append-nil}
use Rattle.robots_rules.specs.Access.{RuleValue}
use Rattle.robots_rules.specs.inner.NormalTextView.{octets_of_text}
use Rattle.robots_rules.specs.Octets.{normal_path}
use Rattle.robots_rules.proofs.AccessLemmas.{nothing_stated, allowed_by_value, closed_value, opened_value}
use Rattle.robots_rules.proofs.rule_set.RuleSet.allows.Goals as goal

pub returns-then-is_closed-clause-value : goal.returns-then-is_closed-clause-value
returns-then-is_closed-clause-value c = closed_value c.args.self.now c.args.path_query.now (sym c.is_closed.ensures ∙ c.if-is_closed.true)

pub returns-then-is_empty-clause-value : goal.returns-then-is_empty-clause-value
returns-then-is_empty-clause-value c =
    nothing_stated c.args.self.now.closed c.args.self.now.rules (normal_path c.args.path_query.now) (sym c.is_closed.ensures ∙ c.if-is_closed.false)
    (ap (λ (rs : List RuleValue). length rs == 0) (sym c.rules-rules.ensures) ∙ sym c.is_empty.ensures ∙ c.if-is_empty.true)

pub returns-then-is_empty-2-clause-value : goal.returns-then-is_empty-2-clause-value
returns-then-is_empty-2-clause-value c =
    let front = c.split_normal.result.0.now in
    let whole = ap (λ rest. front ++ rest) (c.is_empty-2.ensures.0 c.if-is_empty-2.true) ∙ append-nil front in
    opened_value c.args.self.now c.args.path_query.now _ _ _ (sym c.is_closed.ensures ∙ c.if-is_closed.false) c.rules_allow.ensures.value c.rules-rules.ensures (sym (c.split_normal.ensures ∙ whole))

pub returns-then-path_query-le-SHORT_PATH-clause-value : goal.returns-then-path_query-le-SHORT_PATH-clause-value
returns-then-path_query-le-SHORT_PATH-clause-value c =
    opened_value c.args.self.now c.args.path_query.now _ _ _ (sym c.is_closed.ensures ∙ c.if-is_closed.false) c.short_is_allowed.ensures.value c.rules-rules.ensures refl

pub returns-in-Some-clause-value : goal.returns-in-Some-clause-value
returns-in-Some-clause-value c =
    opened_value c.args.self.now c.args.path_query.now _ _ _ (sym c.is_closed.ensures ∙ c.if-is_closed.false) (c.in-Some.ensures.value (octets_of_text c.split_normal.result.1)) c.rules-rules.ensures (sym c.split_normal.ensures)

pub returns-in-None-clause-value : goal.returns-in-None-clause-value
returns-in-None-clause-value c =
    opened_value c.args.self.now c.args.path_query.now _ _ _ (sym c.is_closed.ensures ∙ c.if-is_closed.false) c.long_is_allowed.ensures.value c.rules-rules.ensures refl

pub returns-then-is_closed-clause-allowed : goal.returns-then-is_closed-clause-allowed
returns-then-is_closed-clause-allowed c = allowed_by_value c.args.self.now c.args.path_query.now _ (returns-then-is_closed-clause-value c)

pub returns-then-is_empty-clause-allowed : goal.returns-then-is_empty-clause-allowed
returns-then-is_empty-clause-allowed c = allowed_by_value c.args.self.now c.args.path_query.now _ (returns-then-is_empty-clause-value c)

pub returns-then-is_empty-2-clause-allowed : goal.returns-then-is_empty-2-clause-allowed
returns-then-is_empty-2-clause-allowed c = allowed_by_value c.args.self.now c.args.path_query.now _ (returns-then-is_empty-2-clause-value c)

pub returns-then-path_query-le-SHORT_PATH-clause-allowed : goal.returns-then-path_query-le-SHORT_PATH-clause-allowed
returns-then-path_query-le-SHORT_PATH-clause-allowed c = allowed_by_value c.args.self.now c.args.path_query.now _ (returns-then-path_query-le-SHORT_PATH-clause-value c)

pub returns-in-Some-clause-allowed : goal.returns-in-Some-clause-allowed
returns-in-Some-clause-allowed c = allowed_by_value c.args.self.now c.args.path_query.now _ (returns-in-Some-clause-value c)

pub returns-in-None-clause-allowed : goal.returns-in-None-clause-allowed
returns-in-None-clause-allowed c = allowed_by_value c.args.self.now c.args.path_query.now _ (returns-in-None-clause-value c)
