use Rattle.std.proofs.Common.{◌≡◌, ◌≢◌, ◌∙◌, ℕ, rules, arith, subst, sym}
use Rattle.std.specs.Prelude.{IfOk, IfErr}
use Rattle.frontier_core.specs.declared.event.Cause.TheVariants as why
use Rattle.workers.specs.OneWorker.{AreByCrew}
use Rattle.workers.specs.Takers.{AreOwn}
use Rattle.workers.specs.inner.Takers.{AreNotedBy}
use Rattle.workers.proofs.ConclusionLaws.{by_nobody, if_ok, if_err}
use Rattle.workers.proofs.TakerLaws.{own_none}
use Rattle.workers.specs.Crews.{SomeSays}
use Rattle.workers.proofs.CrewEnds.{stopped_empty, stopped_wrong, later_self, none_once, account_all, account_once, account_own, all_retrieved, all_stopped}
use Rattle.workers.proofs.QuotaLaws.{keeps_nothing, memory_not_quota, quota_not_mismatch}
use Rattle.workers.proofs.ServingLaws.{all_has_body}
use Rattle.workers.proofs.crew_retrieval.retrieve_together.Goals as goal

pub returns-in_default-clause-err : goal.returns-in_default-clause-err
returns-in_default-clause-err g c =
    let F = g.F.Fetcher in
    stopped_empty F c.args.plan.now c.args.fetchers.items c.args.fetchers.items c.empty.result.cause c.empty.result.harvest
    (later_self F c.args.plan.now c.args.fetchers.items) (none_once F c.args.plan.now c.args.fetchers.items) c.empty.ensures

pub conclude-requires : goal.conclude-requires
conclude-requires g c =
    let F = g.F.Fetcher in
    let old = c.args.fetchers.items in
    let new = c.work_all-fetchers.result.fetchers.items in
    let account = account_all F c.args.plan.now old new c.work_all-fetchers.result.noted c.in-All.notes c.work_all-fetchers.ensures.noted c.in-All.is in
    all_has_body (SomeSays F old new) c.args.plan.now c.in-All.notes.pages.items account.told

pub returns-in-All-clause-ok : goal.returns-in-All-clause-ok
returns-in-All-clause-ok g c =
    let F = g.F.Fetcher in
    let plan = c.args.plan.now in
    let old = c.args.fetchers.items in
    let new = c.work_all-fetchers.result.fetchers.items in
    let account = account_all F plan old new c.work_all-fetchers.result.noted c.in-All.notes c.work_all-fetchers.ensures.noted c.in-All.is in
    all_retrieved F plan old new c.into_frontier-frontier.result c.in-All.notes.pages.items c.in-All.notes.rules.items c.conclude.result
    c.work_all-fetchers.ensures.later account c.conclude.ensures.ok

pub returns-in-All-clause-err : goal.returns-in-All-clause-err
returns-in-All-clause-err g c =
    let F = g.F.Fetcher in
    let plan = c.args.plan.now in
    let old = c.args.fetchers.items in
    let new = c.work_all-fetchers.result.fetchers.items in
    let account = account_all F plan old new c.work_all-fetchers.result.noted c.in-All.notes c.work_all-fetchers.ensures.noted c.in-All.is in
    all_stopped F plan old new c.into_frontier-frontier.result c.in-All.notes.pages.items c.in-All.notes.rules.items c.conclude.result
    c.work_all-fetchers.ensures.later account c.conclude.ensures.err c.conclude.ensures.full

pub returns-in-Once-clause-err : goal.returns-in-Once-clause-err
returns-in-Once-clause-err g c =
    let F = g.F.Fetcher in
    let plan = c.args.plan.now in
    let old = c.args.fetchers.items in
    let new = c.work_all-fetchers.result.fetchers.items in
    stopped_empty F plan old new c.empty-in-Once.result.cause c.empty-in-Once.result.harvest c.work_all-fetchers.ensures.later
    (account_once F plan old new c.work_all-fetchers.result.noted c.work_all-fetchers.ensures.noted c.in-Once.is) c.empty-in-Once.ensures

pub returns-in-Twice-clause-err : goal.returns-in-Twice-clause-err
returns-in-Twice-clause-err g c =
    let F = g.F.Fetcher in
    let plan = c.args.plan.now in
    let old = c.args.fetchers.items in
    let new = c.work_all-fetchers.result.fetchers.items in
    stopped_wrong F plan old new c.mismatch.result.cause c.mismatch.result.harvest c.work_all-fetchers.ensures.later c.mismatch.ensures

pub returns-in_default-clause-numbered : goal.returns-in_default-clause-numbered
returns-in_default-clause-numbered g c = (tt, λ other. by_nobody c.args.fetchers.len _ c.empty.ensures.trace)

pub returns-in-All-clause-numbered : goal.returns-in-All-clause-numbered
returns-in-All-clause-numbered g c =
    let all : c.len-workers.result ≡ c.args.fetchers.len = search rules in (
      subst (λ (n : ℕ). IfOk c.conclude.result (λ h. AreByCrew n h.trace)) all c.conclude.ensures.numbered.0,
      subst (λ (n : ℕ). IfErr c.conclude.result (λ halt. halt.cause ≢ why.Mismatch → AreByCrew n halt.harvest.trace)) all c.conclude.ensures.numbered.1,
    )

pub returns-in-Once-clause-numbered : goal.returns-in-Once-clause-numbered
returns-in-Once-clause-numbered g c = (tt, λ other. by_nobody c.args.fetchers.len _ c.empty-in-Once.ensures.trace)

pub returns-in-Twice-clause-numbered : goal.returns-in-Twice-clause-numbered
returns-in-Twice-clause-numbered g c = (tt, λ other. absurd (other c.mismatch.ensures))

pub returns-in_default-clause-own : goal.returns-in_default-clause-own
returns-in_default-clause-own g c =
    let old = c.args.fetchers.items in
    (tt, λ other. own_none g.F.Fetcher old old _ c.empty.ensures.trace)

pub returns-in-All-clause-own : goal.returns-in-All-clause-own
returns-in-All-clause-own g c =
    let F = g.F.Fetcher in
    let old = c.args.fetchers.items in
    let new = c.work_all-fetchers.result.fetchers.items in
    let notes = c.in-All.notes in
    let noted = account_own F old new c.work_all-fetchers.result.noted notes c.work_all-fetchers.ensures.own c.in-All.is in (
      if_ok c.conclude.result (λ h. AreNotedBy notes.pages.items notes.rules.items h.trace) (λ h. AreOwn F 0 old new h.trace) (λ h is. noted h.trace is) c.conclude.ensures.own.0,
      if_err c.conclude.result (λ halt. halt.cause ≢ why.Mismatch → AreNotedBy notes.pages.items notes.rules.items halt.harvest.trace) (λ halt. halt.cause ≢ why.Mismatch → AreOwn F 0 old new halt.harvest.trace)
          (λ halt is other. noted halt.harvest.trace (is other)) c.conclude.ensures.own.1,
    )

pub returns-in-Once-clause-own : goal.returns-in-Once-clause-own
returns-in-Once-clause-own g c = (tt, λ other. own_none g.F.Fetcher c.args.fetchers.items c.work_all-fetchers.result.fetchers.items _ c.empty-in-Once.ensures.trace)

pub returns-in-Twice-clause-own : goal.returns-in-Twice-clause-own
returns-in-Twice-clause-own g c = (tt, λ other. absurd (other c.mismatch.ensures))

pub work_all-fetchers-requires-clause-most : goal.work_all-fetchers-requires-clause-most
work_all-fetchers-requires-clause-most g c κs within = c.requires.most

pub work_all-fetchers-requires-clause-seats : goal.work_all-fetchers-requires-clause-seats
work_all-fetchers-requires-clause-seats g c κs within = (c.in-Ok.ensures.empty.0, omega (arith, c.in-Ok.ensures.seats))

pub work_all-fetchers-requires-clause-room : goal.work_all-fetchers-requires-clause-room
work_all-fetchers-requires-clause-room g c κs within = (c.in-Ok.ensures.empty.1, omega (arith, c.in-Ok.ensures.fetchers))

pub returns-in_default-clause-ok : goal.returns-in_default-clause-ok
returns-in_default-clause-ok g c = tt

pub returns-in-Once-clause-ok : goal.returns-in-Once-clause-ok
returns-in-Once-clause-ok g c = tt

pub returns-in-Twice-clause-ok : goal.returns-in-Twice-clause-ok
returns-in-Twice-clause-ok g c = tt

pub returns-in_default-clause-quota : goal.returns-in_default-clause-quota
returns-in_default-clause-quota g c =
    keeps_nothing (g.Q.Quota.most c.args.quota.now) g.Q.Quota.len_of c.empty.result (λ is. memory_not_quota (sym c.empty.ensures.memory ∙ is))

pub returns-in-All-clause-quota : goal.returns-in-All-clause-quota
returns-in-All-clause-quota g c = c.conclude.ensures.quota

pub returns-in-Once-clause-quota : goal.returns-in-Once-clause-quota
returns-in-Once-clause-quota g c =
    keeps_nothing (g.Q.Quota.most c.args.quota.now) g.Q.Quota.len_of c.empty-in-Once.result (λ is. memory_not_quota (sym c.empty-in-Once.ensures.memory ∙ is))

pub returns-in-Twice-clause-quota : goal.returns-in-Twice-clause-quota
returns-in-Twice-clause-quota g c =
    keeps_nothing (g.Q.Quota.most c.args.quota.now) g.Q.Quota.len_of c.mismatch.result (λ is. quota_not_mismatch (sym is ∙ c.mismatch.ensures))
