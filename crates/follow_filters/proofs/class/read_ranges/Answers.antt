use Rattle.std.proofs.lemmas.Result.{err_from_is_err_and}
use Rattle.std.proofs.Common.{◌∙◌, ap, sym, refl, inl, inr, Some, append-nil}
use Rattle.follow_filters.specs.Classes.{ranges_of}
use Rattle.follow_filters.proofs.ClassLemmas.{behind, behind-nothing, ranges_of-more, bad_range}
use Rattle.follow_filters.proofs.class.read_ranges.Goals as goal

pub loop-range-preserved : goal.loop-range-preserved
loop-range-preserved c =
    ap (λ front. behind front (ranges_of c.in-Some.behind.now)) c.in_ok-push.ensures.items
    ∙ ranges_of-more c.loop-range.ranges.items c.in-Some.range c.loop-range.rest.now c.in-Some.behind.now c.if-range.false c.in-Some.ensures.0
    ∙ c.loop-range.invariant

pub returns-then-range : goal.returns-then-range
returns-then-range c = inl (refl, sym c.loop-range.invariant ∙ ap (behind c.loop-range.ranges.items) (c.in-Some.ensures.0 ∙ bad_range c.in-Some.range (ranges_of c.in-Some.behind.now) c.if-range.true))

pub returns-in_err-push : goal.returns-in_err-push
returns-in_err-push c =
    let p = err_from_is_err_and c.from_residual.result c.from_residual.ensures.1 in
    rw (p.1, p.2) (inr refl)

pub loop-range-init : goal.loop-range-init
loop-range-init c = rw c.new-ranges.ensures.items (behind-nothing (ranges_of c.args.items.now))

pub loop-range-smaller : goal.loop-range-smaller
loop-range-smaller c = c.in-Some.ensures.1

pub returns : goal.returns
returns c = sym c.loop-range.invariant ∙ ap (λ rest. behind c.loop-range.ranges.items (ranges_of rest)) c.in_default.ensures ∙ ap Some (append-nil c.loop-range.ranges.items)
