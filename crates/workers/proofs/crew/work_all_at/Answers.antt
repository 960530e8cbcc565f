-- What each call did at its place, all did.
use Rattle.std.proofs.Common.{arith, subst, get_or}
use Rattle.workers.specs.inner.Seats.{SeatGoes}
use Rattle.workers.proofs.Eachs.{AllZip-each}
use Rattle.workers.proofs.crew.work_all_at.Goals as goal

pub returns : goal.returns
returns g c =
    let F = g.F.Fetcher in
    let plan = c.args.plan.now in
    let new = c.for_each_mut.new.s in
    AllZip-each (SeatGoes F plan) c.args.seats.now new (omega arith)
    (λ i d lt. let did = (c.for_each_mut.ensures i d lt).1 in
    subst (λ old. SeatGoes F plan old (get_or new i d)) did.argument_is (subst (λ now. SeatGoes F plan did.argument.now now) did.left did.call))
