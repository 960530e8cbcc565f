-- Each way that a text goes on.
use Rattle.std.proofs.Common.{◌≡◌, ◌∙◌, length, refl, sym, ap}
use Rattle.mirror_index.specs.Indexes.{last_line}
use Rattle.mirror_index.specs.inner.Steps.{IsAdded, MayNot}
use Rattle.mirror_index.proofs.ReadLaws.{few_fit}
use Rattle.mirror_index.proofs.StepLaws.{at_end, at_false, at_true, cut_short, may_not_bad, no_line_bad, none_left, one_more_line, some_left}
use Rattle.mirror_index.proofs.reading.next_step.Goals as goal

pub returns-in_default : goal.returns-in_default
returns-in_default c = (refl, no_line_bad c.args.index.now c.args.rest.now c.in_default.ensures)

pub returns-then-ends : goal.returns-then-ends
returns-then-ends c = (
  refl,
  at_end (length c.args.index.now) c.args.rest.now c.in-Some.line.now c.in-Some.after.now c.in-Some.ensures.1
      (none_left c.in-Some.after.now (sym c.is_empty.ensures ∙ c.if-is_empty.true)) (c.in_ok-ends.ensures.0 c.if-ends.true ∙ ap last_line c.len-count.ensures.count),
)

pub returns-then-is_empty : goal.returns-then-is_empty
returns-then-is_empty c = (
  refl,
  cut_short c.args.index.now c.args.rest.now c.in-Some.line.now c.in-Some.after.now (few_fit c.args.index.now c.len-count.ensures.index) c.in-Some.ensures.0 c.in-Some.ensures.1
      (none_left c.in-Some.after.now (sym c.is_empty.ensures ∙ c.if-is_empty.true))
      (λ is. let so = c.in_ok-ends.ensures.1 (is ∙ sym (ap last_line c.len-count.ensures.count)) in absurd cc),
)

pub returns-then-added : goal.returns-then-added
returns-then-added c =
    one_more_line c.args.index.now c.add_line.new.index c.args.rest.now c.in-Some.line.now c.in-Some.after.now c.in-Some.ensures.0 c.in-Some.ensures.1
    (some_left c.in-Some.after.now (sym c.is_empty.ensures ∙ c.if-is_empty.false)) (at_true (IsAdded c.args.index.now c.add_line.new.index c.in-Some.line.now) ((c.add_line.new.index ≡ c.args.index.now) × MayNot c.args.index.now c.in-Some.line.now) c.in_ok-added.added c.if-added.true c.in_ok-added.ensures)

pub returns : goal.returns
returns c =
    let same = at_false (IsAdded c.args.index.now c.add_line.new.index c.in-Some.line.now) ((c.add_line.new.index ≡ c.args.index.now) × MayNot c.args.index.now c.in-Some.line.now) c.in_ok-added.added c.if-added.false c.in_ok-added.ensures in (
      same.0,
      may_not_bad c.args.index.now c.args.rest.now c.in-Some.line.now c.in-Some.after.now (few_fit c.args.index.now c.len-count.ensures.index) c.in-Some.ensures.0 c.in-Some.ensures.1
          (some_left c.in-Some.after.now (sym c.is_empty.ensures ∙ c.if-is_empty.false)) same.1,
    )
