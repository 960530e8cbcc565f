use Rattle.std.proofs.Common.{◌≡◌, ◌∙◌, ◌∷◌, [], Some, refl, sym, ap}
use Rattle.std.proofs.lemmas.Slice.Eq.{strip_prefix_is}
use Rattle.std.proofs.lemmas.Bool.Decides.{Decides-eqb}
use Rattle.part_match.specs.Cuts.{some_end}
use Rattle.part_match.proofs.Decided.{is_match-run}
use Rattle.robots_rules.specs.Patterns.{is_run, takes}
use Rattle.robots_rules.proofs.PieceLemmas.{matched}
use Rattle.robots_rules.proofs.pieces.matches_others.Goals as goal

pub returns-in-Ok-Ok : goal.returns-in-Ok-Ok
returns-in-Ok-Ok c =
    let others = c.in-Ok-Ok.ensures.cases.0 in
    let path = c.in-Ok-Ok.ensures'.cases.0 in
    let parts : c.args.parts.now ≡ 42 ∷ c.in-Some.others.now = strip_prefix_is Decides-eqb c.args.parts.now (42 ∷ []) (Some c.in-Some.others) c.in-Some.ensures.cases in
    c.matches_some_end.ensures ∙ (λ i. some_end (matched (others i)) (path i))
    ∙ sym (ap (λ ps. matched ps c.args.path.now) parts ∙ is_match-run is_run takes 42 c.in-Some.others.now c.args.path.now refl)
