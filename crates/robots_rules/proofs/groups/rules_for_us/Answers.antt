use Rattle.std.proofs.Common.{◌≡◌, ◌∙◌, Bool, true, false, cond, List, refl, subst, ap, map}
use Rattle.std.specs.Result.{IfOk}
use Rattle.std.specs.List.{list_any}
use Rattle.robots_rules.specs.Groups.{Group, names_all, names_us, rule_of, rules_for_us, rules_naming, groups_of}
use Rattle.robots_rules.specs.Lines.{RuleLine}
use Rattle.robots_rules.specs.declared.groups.Audience.{Audience}
use Rattle.robots_rules.specs.declared.groups.Audience.TheVariants as audience
use Rattle.robots_rules.specs.inner.LineView.{line_value}
use Rattle.robots_rules.specs.inner.AudienceView.{names_one}
use Rattle.robots_rules.proofs.groups.rules_for_us.Goals as goal

audience_rules : (named : Bool) (groups : List Group) → rules_naming (names_one (cond named audience.ThisAgent audience.EveryAgent)) groups ≡ cond named (rules_naming names_us groups) (rules_naming names_all groups)
audience_rules true groups = refl
audience_rules false groups = refl

pub returns : goal.returns
unfolding rules_for_us
returns c =
    let groups = (groups_of (map line_value c.args.lines.now)).groups in
    let same : rules_naming (names_one c.audience_of.result) groups ≡ rules_for_us groups =
    ap (λ (a : Audience). rules_naming (names_one a) groups) c.audience_of.ensures ∙ audience_rules (list_any (λ (group : Group). list_any names_us group.agents) groups) groups in
    subst (λ (xs : List RuleLine). IfOk c.rules_naming.result (λ rules. rules.items ≡ map rule_of xs)) same c.rules_naming.ensures
