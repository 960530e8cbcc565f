use Rattle.std.proofs.Common.{◌≢◌, slice_set}
use Rattle.frontier_core.specs.declared.event.Cause.TheVariants as why
use Rattle.workers.specs.OneWorker.{AreByOne, AreByCrew}
use Rattle.workers.specs.Takers.{AreOwn}
use Rattle.workers.proofs.ConclusionLaws.{if_ok, if_err, by_one}
use Rattle.workers.proofs.CrewEnds.{alone_retrieved, alone_stopped}
use Rattle.workers.proofs.TakerLaws.{alone_own}
use Rattle.workers.proofs.crew_retrieval.ask_alone.Goals as goal

pub returns-in-len1-clause-ok : goal.returns-in-len1-clause-ok
returns-in-len1-clause-ok g c =
    let F = g.F.Fetcher in
    let told = c.retrieve_noting.ensures in
    alone_retrieved F c.args.plan.now c.args.fetchers.now c.index-fetchers-0.result c.retrieve_noting.new.fetcher c.retrieve_noting.result c.requires told.site told.log told.comes.ok told.comes.entries

pub returns-in-len1-clause-err : goal.returns-in-len1-clause-err
returns-in-len1-clause-err g c =
    let F = g.F.Fetcher in
    let told = c.retrieve_noting.ensures in
    alone_stopped F c.args.plan.now c.args.fetchers.now c.index-fetchers-0.result c.retrieve_noting.new.fetcher c.retrieve_noting.result c.requires told.site told.log told.comes.err told.comes.full

pub returns-in-len1-clause-mismatch : goal.returns-in-len1-clause-mismatch
returns-in-len1-clause-mismatch g c = c.retrieve_noting.ensures.comes.mismatch

pub returns-in-len1-clause-numbered : goal.returns-in-len1-clause-numbered
returns-in-len1-clause-numbered g c =
    let by = c.retrieve_noting.ensures.comes.by_one in (
      if_ok c.retrieve_noting.result (λ h. AreByOne h.trace) (λ h. AreByCrew 1 h.trace) (λ h. by_one h.trace) by.0,
      if_err c.retrieve_noting.result (λ halt. AreByOne halt.harvest.trace) (λ halt. halt.cause ≢ why.Mismatch → AreByCrew 1 halt.harvest.trace) (λ halt is other. by_one halt.harvest.trace is) by.1,
    )

pub returns-in-len1-clause-own : goal.returns-in-len1-clause-own
returns-in-len1-clause-own g c =
    let F = g.F.Fetcher in
    let old = c.args.fetchers.now in
    let new = slice_set old 0 c.retrieve_noting.new.fetcher in
    let by = c.retrieve_noting.ensures.comes.by_one in (
      if_ok c.retrieve_noting.result (λ h. AreByOne h.trace) (λ h. AreOwn F 0 old new h.trace) (λ h. alone_own F old c.retrieve_noting.new.fetcher h.trace c.requires) by.0,
      if_err c.retrieve_noting.result (λ halt. AreByOne halt.harvest.trace) (λ halt. halt.cause ≢ why.Mismatch → AreOwn F 0 old new halt.harvest.trace)
          (λ halt is other. alone_own F old c.retrieve_noting.new.fetcher halt.harvest.trace c.requires is) by.1,
    )
