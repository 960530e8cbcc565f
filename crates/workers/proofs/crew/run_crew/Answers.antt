use Rattle.std.proofs.Common.{◌≡◌, arith, length, drop, refl, subst, sym}
use Rattle.workers.specs.inner.Seats.{AllGo}
use Rattle.workers.proofs.CrewEnds.{written}
use Rattle.workers.proofs.crew.run_crew.Goals as goal

pub returns-clause-went : goal.returns-clause-went
returns-clause-went g c =
    let F = g.F.Fetcher in
    let plan = c.args.plan.now in
    let new = c.work_all_at.new.seats in
    let long : length new ≡ c.args.seats.len = omega arith in
    subst (λ seats. AllGo F plan c.args.seats.items seats) (sym (written _ new (drop (length new) c.args.seats.items) long))
    (subst (λ seats. AllGo F plan seats new) c.deref_mut.ensures.value c.work_all_at.ensures)

pub returns-clause-len : goal.returns-clause-len
returns-clause-len g c = refl
