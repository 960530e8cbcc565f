use Rattle.std.proofs.Common.{◌≡◌, ◌∙◌, sym, ap, arith}
use Rattle.part_match.specs.Cuts.{is_match}
use Rattle.robots_rules.specs.Patterns.{is_run, takes, matching_parts}
use Rattle.robots_rules.specs.Access.{RuleValue}
use Rattle.robots_rules.proofs.AccessLemmas.{applies_by_value}
use Rattle.robots_rules.proofs.rule.Rule.applies.Goals as goal

pub returns-then-octets-gt0 : goal.returns-then-octets-gt0
returns-then-octets-gt0 g c =
    let text = g.T.NormalPath.octets c.args.path in
    let value : c.is_matched.result ≡ is_match is_run takes (matching_parts c.args.self.now.pattern) text =
    c.is_matched.ensures
    ∙ ap (λ ps. is_match is_run takes ps text) (c.deref.ensures.value ∙ sym (c.self.invariant.whole))
    ∙ ap (λ (r : RuleValue). is_match is_run takes (matching_parts r.pattern) text) c.self.view_is in
    applies_by_value text c.args.self.now c.is_matched.result (omega arith) value
