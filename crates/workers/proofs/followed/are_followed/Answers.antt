use Rattle.std.proofs.Common.{arith, refl}
use Rattle.workers.specs.inner.Takers.{IsNotedBy}
use Rattle.workers.proofs.ComparisonLaws.{all_more}
use Rattle.workers.proofs.followed.are_followed.Goals as goal

pub loop-event-preserved : goal.loop-event-preserved
loop-event-preserved g c once once_origins =
    all_more (IsNotedBy c.args.notes.now.pages.items c.args.notes.now.rules.items) c.args.trace.now c.loop-event.event-index c.event-item.result c.loop-event-test.true c.event-item.is
    (c.if-not-is_next.ensures refl once once_origins) (c.loop-event.invariant once once_origins)

pub returns : goal.returns
returns g c so once once_origins k d lt = c.loop-event.invariant once once_origins k d (omega arith)
