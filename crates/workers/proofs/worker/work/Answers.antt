-- What is served is one thing more that was done; in any other turn nothing is.
use Rattle.workers.proofs.Going.{goes_none, goes_on}
use Rattle.workers.proofs.worker.work.Goals as goal

pub loop-init : goal.loop-init
loop-init g c =
    let F = g.F.Fetcher in
    goes_none F c.args.plan.now c.args.worker c.args.fetcher.now c.args.notes.now

pub loop-preserved-in-Busy : goal.loop-preserved-in-Busy
loop-preserved-in-Busy g c = c.loop.invariant

pub loop-preserved-in-Spread : goal.loop-preserved-in-Spread
loop-preserved-in-Spread g c = c.loop.invariant

pub loop-preserved-in-Robots : goal.loop-preserved-in-Robots
loop-preserved-in-Robots g c =
    let F = g.F.Fetcher in
    goes_on F c.args.plan.now c.args.worker _ _ _ _ _ _ c.loop.invariant (c.fetch_robots.ensures c.args.plan.now)

pub loop-preserved : goal.loop-preserved
loop-preserved g c =
    let F = g.F.Fetcher in
    goes_on F c.args.plan.now c.args.worker _ _ _ _ _ _ c.loop.invariant c.fetch_page.ensures

pub returns-in-Stopped : goal.returns-in-Stopped
returns-in-Stopped g c = c.loop.invariant

pub returns-in-Quiet : goal.returns-in-Quiet
returns-in-Quiet g c = c.loop.invariant
