use Rattle.std.proofs.Common.{◌∙◌, is_some, sym, ap}
use Rattle.follow_filters.specs.Classes.{ranges_of}
use Rattle.follow_filters.proofs.ClassLemmas.{bad_range, then_range-some}
use Rattle.follow_filters.proofs.class.are_spelled.Goals as goal

pub loop-range-preserved : goal.loop-range-preserved
loop-range-preserved c =
    sym (then_range-some c.in-Some.range (ranges_of c.in-Some.behind.now) c.if-range.false) ∙ ap is_some (sym c.in-Some.ensures.0) ∙ c.loop-range.invariant

pub returns-then-range : goal.returns-then-range
returns-then-range c =
    sym (sym c.loop-range.invariant ∙ ap is_some (c.in-Some.ensures.0 ∙ bad_range c.in-Some.range (ranges_of c.in-Some.behind.now) c.if-range.true))

pub loop-range-smaller : goal.loop-range-smaller
loop-range-smaller c = c.in-Some.ensures.1

pub returns : goal.returns
returns c = sym (sym c.loop-range.invariant ∙ ap (λ rest. is_some (ranges_of rest)) c.in_default.ensures)
