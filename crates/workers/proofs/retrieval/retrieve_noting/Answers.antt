-- What was driven is what the retrieval results in.
use Rattle.std.proofs.Common.{sym, ◌∙◌}
use Rattle.workers.proofs.QuotaLaws.{keeps_from, keeps_nothing, memory_not_quota}
use Rattle.workers.proofs.RetrievalLaws.{driven_is, driven_kept, driven_log, told_from, told_nothing, log_none, none_once}
use Rattle.workers.proofs.retrieval.retrieve_noting.Goals as goal

pub finish-requires-clause-once : goal.finish-requires-clause-once
finish-requires-clause-once g c =
    let driven = c.drive-driven.ensures in
    (driven_kept _ _ _ c.drive-driven.new.frontier c.drive-driven.new.pages.items _ _ c.drive-driven.result
    (driven_is _ _ c.in-Ok.frontier.plan c.drive-driven.new.frontier c.drive-driven.new.pages.items (g.F.Fetcher.log c.args.fetcher.now) (g.F.Fetcher.log c.drive-driven.new.fetcher) c.drive-driven.result driven.ok driven.err)).once

pub finish-requires-clause-kept : goal.finish-requires-clause-kept
finish-requires-clause-kept g c =
    let driven = c.drive-driven.ensures in
    (driven_kept _ _ _ c.drive-driven.new.frontier c.drive-driven.new.pages.items _ _ c.drive-driven.result
    (driven_is _ _ c.in-Ok.frontier.plan c.drive-driven.new.frontier c.drive-driven.new.pages.items (g.F.Fetcher.log c.args.fetcher.now) (g.F.Fetcher.log c.drive-driven.new.fetcher) c.drive-driven.result driven.ok driven.err)).addresses

pub returns-clause-site : goal.returns-clause-site
returns-clause-site g c = c.drive-driven.ensures.site

pub returns-clause-log : goal.returns-clause-log
returns-clause-log g c =
    let driven = c.drive-driven.ensures in
    driven_log _ _ _ c.drive-driven.new.frontier c.drive-driven.new.pages.items _ _ c.drive-driven.result
    (driven_is _ _ c.in-Ok.frontier.plan c.drive-driven.new.frontier c.drive-driven.new.pages.items (g.F.Fetcher.log c.args.fetcher.now) (g.F.Fetcher.log c.drive-driven.new.fetcher) c.drive-driven.result driven.ok driven.err)

pub returns-clause-comes : goal.returns-clause-comes
returns-clause-comes g c =
    let driven = c.drive-driven.ensures in
    told_from _ _ c.in-Ok.frontier.plan c.args.plan.now c.drive-driven.new.frontier c.drive-driven.new.pages.items _ _ c.drive-driven.result c.finish.result c.in-Ok.ensures.plan
    driven.ok driven.err driven.by_one driven.full driven.mismatch c.finish.ensures.ok c.finish.ensures.err

-- if the first frontier had no memory, nothing was requested
pub returns-in_default-clause-log : goal.returns-in_default-clause-log
returns-in_default-clause-log g c = log_none (g.F.Fetcher.log c.args.fetcher.now)

pub returns-in_default-clause-comes : goal.returns-in_default-clause-comes
returns-in_default-clause-comes g c = told_nothing _ _ c.args.plan.now _ _ c.empty.result c.empty.ensures (none_once (g.F.Fetcher.log c.args.fetcher.now))

pub returns-clause-quota : goal.returns-clause-quota
returns-clause-quota g c =
    let Q = g.Q.Quota in
    keeps_from (Q.most c.args.quota.now) Q.len_of c.drive-driven.new.frontier c.drive-driven.new.pages.items c.drive-driven.result c.finish.result
    c.drive-driven.ensures.within c.drive-driven.ensures.beyond c.finish.ensures.ok c.finish.ensures.err

pub returns-in_default-clause-quota : goal.returns-in_default-clause-quota
returns-in_default-clause-quota g c =
    keeps_nothing (g.Q.Quota.most c.args.quota.now) g.Q.Quota.len_of c.empty.result (λ is. memory_not_quota (sym c.empty.ensures.memory ∙ is))
