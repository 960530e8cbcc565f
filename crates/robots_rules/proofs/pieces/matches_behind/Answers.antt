use Rattle.std.proofs.Common.{◌∙◌, ◌++◌, sym, ap}
use Rattle.std.proofs.lemmas.Bool.{both_ways, eq-eqb, eqb-true}
use Rattle.robots_rules.proofs.PieceLemmas.{matched, nil_is, none_left, runs_take}
use Rattle.robots_rules.proofs.pieces.matches_behind.Goals as goal

pub returns-then-is_empty : goal.returns-then-is_empty
returns-then-is_empty c =
    λ rest. sym
    (ap (λ ps. matched ps (c.args.front.now ++ rest)) (nil_is c.args.parts.now (eqb-true _ _ (sym c.is_empty.ensures ∙ c.if-is_empty.true)))
    ∙ none_left c.args.front.now rest (λ none. both_ways _ c.if-is_empty-2.false (c.is_empty-then-is_empty.ensures ∙ eq-eqb _ _ none)))

pub returns-then-only_runs : goal.returns-then-only_runs
returns-then-only_runs c =
    λ rest. sym
    (runs_take c.args.parts.now (c.args.front.now ++ rest) (λ none. both_ways _ c.if-is_empty.false (c.is_empty.ensures ∙ eq-eqb _ _ none)) (sym c.only_runs.ensures ∙ c.if-only_runs.true))
