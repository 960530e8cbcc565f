-- A needle that isn't in the text is nowhere in it.
use Rattle.std.proofs.Common.{◌≡◌, ◌∙◌, ◌<◌, ◌≤◌, [], true≢false, sym, ap, subst, ⊎_elim, arith}
use Rattle.std.proofs.lemmas.Bool.{cases_lt}
use Rattle.std.proofs.lemmas.List.{get_or-map}
use Rattle.regex_literal.specs.Find.{OccursAt, needle_at}
use Rattle.expressions.specs.inner.Needles.{needle_lists}
use Rattle.expressions.proofs.needles.has_some.Goals as goal

pub loop-needle-preserved : goal.loop-needle-preserved
loop-needle-preserved c =
    let list = c.args.needles.now in
    let index = c.loop-needle.needle-index in
    let needle = c.needle-item.result in
    λ n k below occurs.
    ⊎_elim
    (λ (before : n < index). c.loop-needle.invariant n k before occurs)
    (λ (past : index ≤ n).
    let same : n ≡ index = omega (arith, past, below) in
    let is : needle_at (needle_lists list) n ≡ needle.items = ap (needle_at (needle_lists list)) same ∙ get_or-map (λ x. x.items) list index needle [] c.loop-needle-test.true ∙ ap (λ x. x.items) (sym c.needle-item.is) in
    true≢false (sym (c.has.ensures k (subst (λ x. OccursAt c.args.text.now x k) (is ∙ sym c.deref.ensures.value) occurs)) ∙ c.if-has.false))
    (cases_lt n index)

pub returns : goal.returns
returns c = λ n k below occurs. absurd (c.loop-needle.invariant n k (omega (arith, below, c.loop-needle-test.false)) occurs)
