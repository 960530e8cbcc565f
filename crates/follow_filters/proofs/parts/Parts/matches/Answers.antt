use Rattle.std.proofs.Common.{◌∙◌, ap}
use Rattle.part_match.specs.Cuts.{is_match}
use Rattle.follow_filters.specs.declared.parts.AnyCase.{AnyCase}
use Rattle.follow_filters.specs.Patterns.{is_run, takes, takes_any_case}
use Rattle.follow_filters.proofs.PatternLemmas.{any_case-matches, exact-matches}
use Rattle.follow_filters.proofs.parts.Parts.matches.Goals as goal

pub returns-then-ignores_case : goal.returns-then-ignores_case
returns-then-ignores_case g c =
    let text = g.T.Text.octets c.args.text in
    c.matches.ensures.value
    ∙ ap (λ ps. is_match (λ (any : AnyCase). is_run any.part) (λ (any : AnyCase) byte. takes_any_case any.part byte) ps text) c.as_slice.ensures.value
    ∙ any_case-matches (λ (any : AnyCase). any.part) c.self.inside.any_case.items c.self.inside.exact.items c.args.self.now text c.args.ignores_case c.if-ignores_case.true c.self.invariant c.self.view_is

pub returns-else-ignores_case : goal.returns-else-ignores_case
returns-else-ignores_case g c =
    let text = g.T.Text.octets c.args.text in
    c.matches-else-ignores_case.ensures.value
    ∙ ap (λ ps. is_match is_run takes ps text) c.as_slice-else-ignores_case.ensures.value
    ∙ exact-matches c.self.inside.exact.items c.args.self.now text c.args.ignores_case c.if-ignores_case.false c.self.view_is
