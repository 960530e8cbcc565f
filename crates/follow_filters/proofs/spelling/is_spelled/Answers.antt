use Rattle.std.proofs.Common.{◌≡◌, ◌∙◌, ◌≤◌, ◌∷◌, is_some, length, sym, ap, subst, arith}
use Rattle.follow_filters.specs.Patterns.{parts_within}
use Rattle.follow_filters.proofs.PatternLemmas.{parts_within-some, parts_within-none, parts_spelled-length}
use Rattle.follow_filters.proofs.spelling.is_spelled.Goals as goal

pub loop-first-init : goal.loop-first-init
loop-first-init c = (length c.args.text.now, omega arith, parts_spelled-length c.args.text.now)

pub loop-first-preserved : goal.loop-first-preserved
loop-first-preserved c =
    let first = c.in-Some.first.now in
    let rest = c.in-Some.behind.now in
    let most = c.loop-first.invariant.0 in
    let cut : c.loop-first.rest.now ≡ first ∷ rest = c.in-Some.ensures.cases.0 in
    let within : length (first ∷ rest) ≤ most = subst (λ xs. length xs ≤ most) cut c.loop-first.invariant.1 in
    let found = rw c.in-Some-after_part.is at c.after_part.ensures in
    let more = parts_within-some most first rest found.0 c.in-Some-after_part.after.now within found.1 found.2 in
    (more.0, more.1, more.2 ∙ ap (λ xs. is_some (parts_within most xs)) (sym cut) ∙ c.loop-first.invariant.2)

pub returns-in_default-after_part : goal.returns-in_default-after_part
returns-in_default-after_part c =
    let first = c.in-Some.first.now in
    let rest = c.in-Some.behind.now in
    let most = c.loop-first.invariant.0 in
    let cut : c.loop-first.rest.now ≡ first ∷ rest = c.in-Some.ensures.cases.0 in
    let within : length (first ∷ rest) ≤ most = subst (λ xs. length xs ≤ most) cut c.loop-first.invariant.1 in
    let none = rw c.in_default-after_part.is at c.after_part.ensures in
    sym (sym c.loop-first.invariant.2 ∙ ap (λ xs. is_some (parts_within most xs)) cut ∙ parts_within-none most first rest within none)
