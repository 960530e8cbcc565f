use Rattle.workers.proofs.CrewEnds.{later_told, retrieved_told, stopped_told, found_told, once_told, full_told, whole_told, full_site_told, crowded_told}
use Rattle.workers.proofs.crew_retrieval.retrieve_shown.Goals as goal

pub returns-clause-fetchers : goal.returns-clause-fetchers
returns-clause-fetchers g c =
    let F = g.F.Fetcher in
    let r = c.retrieve_with.result.0 in
    let new = c.retrieve_with.result.1.items in
    later_told F c.args.plan.now c.args.fetchers.items new r c.retrieve_with.ensures.ok c.retrieve_with.ensures.err

pub returns-clause-ok : goal.returns-clause-ok
returns-clause-ok g c =
    let F = g.F.Fetcher in
    let r = c.retrieve_with.result.0 in
    let new = c.retrieve_with.result.1.items in
    retrieved_told F c.args.plan.now c.args.fetchers.items new r c.retrieve_with.ensures.ok

pub returns-clause-err : goal.returns-clause-err
returns-clause-err g c =
    let F = g.F.Fetcher in
    let r = c.retrieve_with.result.0 in
    let new = c.retrieve_with.result.1.items in
    stopped_told F c.args.plan.now c.args.fetchers.items new r c.retrieve_with.ensures.err

pub returns-clause-finds : goal.returns-clause-finds
returns-clause-finds g c =
    let F = g.F.Fetcher in
    let r = c.retrieve_with.result.0 in
    let new = c.retrieve_with.result.1.items in
    found_told F c.args.plan.now c.args.fetchers.items new r c.retrieve_with.ensures.ok

pub returns-clause-once : goal.returns-clause-once
returns-clause-once g c =
    let F = g.F.Fetcher in
    let r = c.retrieve_with.result.0 in
    let new = c.retrieve_with.result.1.items in
    once_told F c.args.plan.now c.args.fetchers.items new r c.retrieve_with.ensures.err

pub returns-clause-full : goal.returns-clause-full
returns-clause-full g c =
    let F = g.F.Fetcher in
    let r = c.retrieve_with.result.0 in
    let new = c.retrieve_with.result.1.items in
    full_told F c.args.plan.now c.args.fetchers.items new r c.retrieve_with.ensures.err

pub returns-clause-whole_site : goal.returns-clause-whole_site
returns-clause-whole_site g c whole fit =
    let F = g.F.Fetcher in
    let r = c.retrieve_with.result.0 in
    let new = c.retrieve_with.result.1.items in
    whole_told F c.args.plan.now c.args.fetchers.items new whole fit r c.retrieve_with.ensures.ok

pub returns-clause-full_site : goal.returns-clause-full_site
returns-clause-full_site g c whole fit =
    let F = g.F.Fetcher in
    let r = c.retrieve_with.result.0 in
    let new = c.retrieve_with.result.1.items in
    full_site_told F c.args.plan.now c.args.fetchers.items new whole fit r c.retrieve_with.ensures.err

pub returns-clause-crowded_site : goal.returns-clause-crowded_site
returns-clause-crowded_site g c whole fit many =
    let F = g.F.Fetcher in
    let r = c.retrieve_with.result.0 in
    let new = c.retrieve_with.result.1.items in
    crowded_told F c.args.plan.now c.args.fetchers.items new whole fit r c.retrieve_with.ensures.ok many
