use Rattle.std.proofs.Common.{◌≡◌, ◌∙◌, ◌≤◌, ◌∷◌, length, sym, ap, subst, arith}
use Rattle.follow_filters.specs.Patterns.{parts_within}
use Rattle.follow_filters.proofs.ClassLemmas.{behind}
use Rattle.follow_filters.proofs.PatternLemmas.{parts_within-more, parts_spelled-within}
use Rattle.follow_filters.proofs.spelling.spelled_parts.Goals as goal

pub loop-first-init : goal.loop-first-init
loop-first-init c =
    (length c.args.text.now, omega arith, ap (λ front. behind front (parts_within (length c.args.text.now) c.args.text.now)) c.new-parts.ensures.items ∙ parts_spelled-within c.args.text.now)

pub loop-first-preserved : goal.loop-first-preserved
loop-first-preserved c =
    let front = c.loop-first.parts.items in
    let first = c.in-Some.first.now in
    let rest = c.in-Some.behind.now in
    let most = c.loop-first.invariant.0 in
    let cut : c.loop-first.rest.now ≡ first ∷ rest = c.in-Some.ensures.cases.0 in
    let within : length (first ∷ rest) ≤ most = subst (λ xs. length xs ≤ most) cut c.loop-first.invariant.1 in
    let more = parts_within-more most front first rest c.in_ok-part.part c.in_ok-part.after.now within c.in_ok-part.ensures.0 c.in_ok-part.ensures.1 in (
      more.0,
      more.1,
      ap (λ xs. behind xs (parts_within more.0 c.in_ok-part.after.now)) c.in_ok-push.ensures.items
          ∙ more.2
          ∙ ap (λ xs. behind front (parts_within most xs)) (sym cut)
          ∙ c.loop-first.invariant.2,
    )
