-- What is said of the harvest and of the fetchers beside it is said of both together.
use Rattle.std.proofs.Common.{◌≡◌, ◌≢◌}
use Rattle.frontier_core.specs.Machine.{answers}
use Rattle.frontier_core.specs.Invariants.{IsOverfull}
use Rattle.frontier_core.specs.Plans.{policy}
use Rattle.frontier_core.specs.Routes.{Answers, HasTooMany}
use Rattle.frontier_core.specs.declared.event.Cause.TheVariants as why
use Rattle.workers.specs.Crews.{AreLater, all_gained, SomeSays, SomeRules}
use Rattle.workers.specs.Found.{AreMadeOnce, AreAsked, AreFound}
use Rattle.workers.specs.OneWorker.{AreByCrew}
use Rattle.workers.specs.Retrieval.{IsRetrieved, IsStopped}
use Rattle.workers.specs.Sites.{IsCompleteFor}
use Rattle.workers.specs.Takers.{AreOwn}
use Rattle.workers.proofs.CrewEnds.{ok_with, err_with, both_with, is_err_with}
use Rattle.workers.proofs.QuotaLaws.{unlimited}
use Rattle.workers.proofs.crew_retrieval.retrieve.Goals as goal

pub returns-clause-fetchers : goal.returns-clause-fetchers
returns-clause-fetchers g c =
    let F = g.F.Fetcher in
    let shown = c.retrieve_shown-retrieved in
    both_with (λ fs. AreLater F c.args.fetchers.items fs) c.with_fetchers.result shown.result.0 shown.result.1.items c.with_fetchers.ensures.ok c.with_fetchers.ensures.err
    shown.ensures.fetchers

pub returns-clause-ok : goal.returns-clause-ok
returns-clause-ok g c =
    let F = g.F.Fetcher in
    let old = c.args.fetchers.items in
    let shown = c.retrieve_shown-retrieved in
    ok_with (λ fs h. IsRetrieved (SomeSays F old fs) (SomeRules F old fs) c.args.plan.now (all_gained F old fs) h)
    c.with_fetchers.result shown.result.0 shown.result.1.items c.with_fetchers.ensures.ok shown.ensures.ok

pub returns-clause-err : goal.returns-clause-err
returns-clause-err g c =
    let F = g.F.Fetcher in
    let old = c.args.fetchers.items in
    let shown = c.retrieve_shown-retrieved in
    err_with (λ fs cause h. cause ≢ why.Mismatch → IsStopped (SomeSays F old fs) (SomeRules F old fs) c.args.plan.now (all_gained F old fs) cause h)
    c.with_fetchers.result shown.result.0 shown.result.1.items c.with_fetchers.ensures.err shown.ensures.err

pub returns-clause-finds : goal.returns-clause-finds
returns-clause-finds g c =
    let F = g.F.Fetcher in
    let old = c.args.fetchers.items in
    let plan = c.args.plan.now in
    let shown = c.retrieve_shown-retrieved in
    ok_with (λ fs h. (m : Answers) × AreAsked (SomeSays F old fs) (SomeRules F old fs) plan (all_gained F old fs) m × AreFound plan m h.entries)
    c.with_fetchers.result shown.result.0 shown.result.1.items c.with_fetchers.ensures.ok shown.ensures.finds

pub returns-clause-once : goal.returns-clause-once
returns-clause-once g c =
    let shown = c.retrieve_shown-retrieved in
    err_with (λ fs cause h. cause ≢ why.Mismatch → AreMadeOnce (all_gained g.F.Fetcher c.args.fetchers.items fs))
    c.with_fetchers.result shown.result.0 shown.result.1.items c.with_fetchers.ensures.err shown.ensures.once

pub returns-clause-full : goal.returns-clause-full
returns-clause-full g c =
    let plan = c.args.plan.now in
    let shown = c.retrieve_shown-retrieved in
    err_with (λ fs cause h. cause ≡ why.Full → HasTooMany (policy plan) (answers h.state) × IsOverfull (policy plan) h.state)
    c.with_fetchers.result shown.result.0 shown.result.1.items c.with_fetchers.ensures.err shown.ensures.full

pub returns-clause-one : goal.returns-clause-one
returns-clause-one g c one =
    let shown = c.retrieve_shown-retrieved in
    err_with (λ fs cause h. cause ≢ why.Mismatch) c.with_fetchers.result shown.result.0 shown.result.1.items c.with_fetchers.ensures.err (shown.ensures.one one)

pub returns-clause-numbered : goal.returns-clause-numbered
returns-clause-numbered g c =
    let workers = c.args.fetchers.len in
    let shown = c.retrieve_shown-retrieved in (
      ok_with (λ fs h. AreByCrew workers h.trace) c.with_fetchers.result shown.result.0 shown.result.1.items c.with_fetchers.ensures.ok shown.ensures.numbered.0,
      err_with (λ fs cause h. cause ≢ why.Mismatch → AreByCrew workers h.trace) c.with_fetchers.result shown.result.0 shown.result.1.items c.with_fetchers.ensures.err shown.ensures.numbered.1,
    )

pub returns-clause-own : goal.returns-clause-own
returns-clause-own g c =
    let F = g.F.Fetcher in
    let old = c.args.fetchers.items in
    let shown = c.retrieve_shown-retrieved in (
      ok_with (λ fs h. AreOwn F 0 old fs h.trace) c.with_fetchers.result shown.result.0 shown.result.1.items c.with_fetchers.ensures.ok shown.ensures.own.0,
      err_with (λ fs cause h. cause ≢ why.Mismatch → AreOwn F 0 old fs h.trace) c.with_fetchers.result shown.result.0 shown.result.1.items c.with_fetchers.ensures.err shown.ensures.own.1,
    )

pub returns-clause-whole_site : goal.returns-clause-whole_site
returns-clause-whole_site g c whole fit =
    let shown = c.retrieve_shown-retrieved in
    ok_with (λ fs h. IsCompleteFor (policy c.args.plan.now) whole h.state) c.with_fetchers.result shown.result.0 shown.result.1.items c.with_fetchers.ensures.ok (shown.ensures.whole_site whole fit)

pub returns-clause-full_site : goal.returns-clause-full_site
returns-clause-full_site g c whole fit =
    let shown = c.retrieve_shown-retrieved in
    err_with (λ fs cause h. cause ≡ why.Full → HasTooMany (policy c.args.plan.now) whole) c.with_fetchers.result shown.result.0 shown.result.1.items c.with_fetchers.ensures.err
    (shown.ensures.full_site whole fit)

pub returns-clause-crowded_site : goal.returns-clause-crowded_site
returns-clause-crowded_site g c whole fit many =
    let shown = c.retrieve_shown-retrieved in
    is_err_with c.with_fetchers.result shown.result.0 shown.result.1.items c.with_fetchers.ensures.ok (shown.ensures.crowded_site whole fit many)

pub returns-clause-unlimited : goal.returns-clause-unlimited
returns-clause-unlimited g c =
    let shown = c.retrieve_shown-retrieved in
    err_with (λ fs cause h. cause ≢ why.Quota) c.with_fetchers.result shown.result.0 shown.result.1.items c.with_fetchers.ensures.err (unlimited _ shown.result.0 shown.ensures.quota)
