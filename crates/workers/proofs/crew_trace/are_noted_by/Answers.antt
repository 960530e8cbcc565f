use Rattle.std.proofs.Common.{arith, refl, subst, sym}
use Rattle.std.proofs.lemmas.Bool.{false≢true}
use Rattle.workers.specs.inner.Takers.{IsNotedBy}
use Rattle.workers.proofs.ComparisonLaws.{all_more}
use Rattle.workers.proofs.crew_trace.are_noted_by.Goals as goal

pub loop-event-preserved : goal.loop-event-preserved
loop-event-preserved g c =
    all_more (IsNotedBy c.args.notes.now.pages.items c.args.notes.now.rules.items) c.args.trace.now c.loop-event.event-index c.event-item.result c.loop-event-test.true c.event-item.is
    (c.if-not-is_noted_by.ensures.0 refl) c.loop-event.invariant

pub returns-then-not-is_noted_by : goal.returns-then-not-is_noted_by
returns-then-not-is_noted_by g c = (
  (λ so. absurd (false≢true so)),
  λ all. c.if-not-is_noted_by.ensures.1 (subst (IsNotedBy c.args.notes.now.pages.items c.args.notes.now.rules.items) (sym c.event-item.is) (all c.loop-event.event-index c.event-item.result c.loop-event-test.true)),
)

pub returns : goal.returns
returns g c = ((λ so k d lt. c.loop-event.invariant k d (omega arith)), λ all. refl)
