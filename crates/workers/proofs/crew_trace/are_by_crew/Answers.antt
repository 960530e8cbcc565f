use Rattle.std.proofs.Common.{◌<◌, arith, refl, subst, sym}
use Rattle.std.specs.Prelude.{IfSome}
use Rattle.std.proofs.lemmas.Bool.{false≢true}
use Rattle.frontier_core.specs.declared.event.Event.{Event}
use Rattle.workers.specs.OneWorker.{worker_of}
use Rattle.workers.proofs.ComparisonLaws.{all_more}
use Rattle.workers.proofs.crew_trace.are_by_crew.Goals as goal

pub loop-event-preserved : goal.loop-event-preserved
loop-event-preserved c =
    all_more (λ (event : Event). IfSome (worker_of event) (λ worker. worker < c.args.workers)) c.args.trace.now c.loop-event.event-index c.event-item.result c.loop-event-test.true c.event-item.is
    (c.if-not-is_by_crew.ensures.0 refl) c.loop-event.invariant

pub returns-then-not-is_by_crew : goal.returns-then-not-is_by_crew
returns-then-not-is_by_crew c = (
  (λ so. absurd (false≢true so)),
  λ all. c.if-not-is_by_crew.ensures.1 (subst (λ (event : Event). IfSome (worker_of event) (λ worker. worker < c.args.workers)) (sym c.event-item.is) (all c.loop-event.event-index c.event-item.result c.loop-event-test.true)),
)

pub returns : goal.returns
returns c = ((λ so k d lt. c.loop-event.invariant k d (omega arith)), λ all. refl)
