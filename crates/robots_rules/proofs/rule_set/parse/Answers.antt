use Rattle.std.proofs.Common.{◌≡◌, ℕ, ◌∙◌, [], false, List, refl, sym, ap, map, subst}
use Rattle.std.specs.Prelude.{fold}
use Rattle.robots_rules.specs.Lines.{LineValue, lines_in}
use Rattle.robots_rules.specs.inner.LineView.{line_value}
use Rattle.robots_rules.specs.Octets.{normal_path}
use Rattle.robots_rules.specs.Access.{RuleValue, RuleSetValue, RulesAllow}
use Rattle.robots_rules.specs.Groups.{rule_of, rules_for_us, groups_of, with_rule, stated_in, rules_in}
use Rattle.robots_rules.proofs.GroupLemmas.{groups_read}
use Rattle.robots_rules.proofs.KeptLemmas.{kept-answers}
use Rattle.robots_rules.proofs.rule_set.parse.Goals as goal

pub returns-clause-rules : goal.returns-clause-rules
unfolding rules_in stated_in
returns-clause-rules c =
    let set : List RuleValue → RuleSetValue = λ rules. record { closed = false; rules = rules } in
    ap set
    (c.in_ok-rules.ensures
    ∙ ap (fold with_rule []) (c.in_ok-stated.ensures ∙ ap (λ (lines : List LineValue). map rule_of (rules_for_us (groups_of lines).groups)) (ap (map line_value) c.deref.ensures.value ∙ c.in_ok-lines.ensures)))

pub returns-clause-stated : goal.returns-clause-stated
unfolding stated_in
returns-clause-stated c =
    λ (path : List ℕ).
    let stated = stated_in c.args.file.now in
    let text = normal_path path in
    let kept : c.in_ok-rules.rules.items ≡ fold with_rule [] stated =
    c.in_ok-rules.ensures
    ∙ ap (fold with_rule []) (c.in_ok-stated.ensures ∙ ap (λ (lines : List LineValue). map rule_of (rules_for_us (groups_of lines).groups)) (ap (map line_value) c.deref.ensures.value ∙ c.in_ok-lines.ensures)) in
    let same = kept-answers stated text in (
      λ allow. same.0 (subst (λ (rules : List RuleValue). RulesAllow rules text) kept allow.1),
      λ allow. (refl, subst (λ (rules : List RuleValue). RulesAllow rules text) (sym kept) (same.1 allow)),
    )

pub returns-clause-groups : goal.returns-clause-groups
returns-clause-groups c = groups_read (lines_in c.args.file.now)

pub returns-in_err-lines-clause-groups : goal.returns-in_err-lines-clause-groups
returns-in_err-lines-clause-groups c = groups_read (lines_in c.args.file.now)

pub returns-in_err-rules-clause-groups : goal.returns-in_err-rules-clause-groups
returns-in_err-rules-clause-groups c = groups_read (lines_in c.args.file.now)

pub returns-in_err-stated-clause-groups : goal.returns-in_err-stated-clause-groups
returns-in_err-stated-clause-groups c = groups_read (lines_in c.args.file.now)
