use Rattle.std.proofs.Common.{◌≡◌, ◌≢◌, length, drop, sym, subst, arith}
use Rattle.std.specs.Prelude.{IfOk, IfErr}
use Rattle.frontier_core.specs.declared.event.Cause.TheVariants as why
use Rattle.workers.specs.Takers.{AreOwn}
use Rattle.workers.specs.inner.Answered.{IsRetrievedBy, IsStoppedBy}
use Rattle.workers.proofs.CrewEnds.{written}
use Rattle.workers.proofs.crew_retrieval.retrieve_alone.Goals as goal

pub returns-clause-ok : goal.returns-clause-ok
returns-clause-ok g c =
    let F = g.F.Fetcher in
    let plan = c.args.plan.now in
    let r = c.ask_alone-retrieved.result in
    let new = c.ask_alone-retrieved.new.fetchers in
    let rest = drop (length new) c.args.fetchers.items in
    let long : length new ≡ c.args.fetchers.len = omega arith in
    let told = subst (λ old. IfOk r (λ h. IsRetrievedBy F plan old new h)) c.deref_mut.ensures.value c.ask_alone-retrieved.ensures.ok in
    subst (λ fs. IfOk r (λ h. IsRetrievedBy F plan c.args.fetchers.items fs h)) (sym (written c.args.fetchers.len new rest long)) told

pub returns-clause-err : goal.returns-clause-err
returns-clause-err g c =
    let F = g.F.Fetcher in
    let plan = c.args.plan.now in
    let r = c.ask_alone-retrieved.result in
    let new = c.ask_alone-retrieved.new.fetchers in
    let rest = drop (length new) c.args.fetchers.items in
    let long : length new ≡ c.args.fetchers.len = omega arith in
    let told = subst (λ old. IfErr r (λ halt. IsStoppedBy F plan old new halt.cause halt.harvest)) c.deref_mut.ensures.value c.ask_alone-retrieved.ensures.err in
    subst (λ fs. IfErr r (λ halt. IsStoppedBy F plan c.args.fetchers.items fs halt.cause halt.harvest)) (sym (written c.args.fetchers.len new rest long)) told

pub returns-clause-own : goal.returns-clause-own
returns-clause-own g c =
    let F = g.F.Fetcher in
    let old = c.args.fetchers.items in
    let r = c.ask_alone-retrieved.result in
    let new = c.ask_alone-retrieved.new.fetchers in
    let rest = drop (length new) old in
    let long : length new ≡ c.args.fetchers.len = omega arith in
    let all = sym (written c.args.fetchers.len new rest long) in (
      subst (λ fs. IfOk r (λ h. AreOwn F 0 old fs h.trace)) all (subst (λ fs. IfOk r (λ h. AreOwn F 0 fs new h.trace)) c.deref_mut.ensures.value c.ask_alone-retrieved.ensures.own.0),
      subst (λ fs. IfErr r (λ halt. halt.cause ≢ why.Mismatch → AreOwn F 0 old fs halt.harvest.trace)) all
          (subst (λ fs. IfErr r (λ halt. halt.cause ≢ why.Mismatch → AreOwn F 0 fs new halt.harvest.trace)) c.deref_mut.ensures.value c.ask_alone-retrieved.ensures.own.1),
    )
