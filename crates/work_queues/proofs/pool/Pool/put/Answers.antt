use Rattle.std.proofs.Common.{◌≡◌, ◌<◌, true, false, arith}
use Rattle.std.proofs.lemmas.Bool.Decides.{nat_tests}
use Rattle.work_queues.specs.Queues.{queued_of}
use Rattle.work_queues.proofs.PoolLaws.{pool_put}
use Rattle.work_queues.proofs.pool.Pool.put.Goals as goal

pub returns-in-Some-clause-pool : goal.returns-in-Some-clause-pool
returns-in-Some-clause-pool c =
    let here = c.requires.number in
    let some : 0 < queued_of c.put.new.self.queues.items c.args.origin = c.in-Some.ensures.some in
    pool_put c.args.self.now _ c.args.origin true c.requires.pool c.put.ensures.placed c.push.ensures.placed c.push.ensures.queues c.put.ensures.queues c.requires.origin
    (c.push.ensures.seats _ (c.requires.pool.some c.args.origin c.requires.origin)) (grind (arith, nat_tests, some)) (c.put.ensures.elsewhere _ here.1)

pub returns-in-Some-clause-seats : goal.returns-in-Some-clause-seats
returns-in-Some-clause-seats c = c.put.ensures.seats _ c.requires.number.1

pub returns-in-None-clause-pool : goal.returns-in-None-clause-pool
returns-in-None-clause-pool c =
    let here = c.requires.number in
    let none : queued_of c.put.new.self.queues.items c.args.origin ≡ 0 = c.in-None.ensures.none in
    pool_put c.args.self.now _ c.args.origin false c.requires.pool c.put.ensures.placed c.remove.ensures.placed c.remove.ensures.queues c.put.ensures.queues c.requires.origin
    (c.remove.ensures.seats _ (c.requires.pool.some c.args.origin c.requires.origin)) (grind (arith, nat_tests, none)) (c.put.ensures.elsewhere _ here.1)

pub returns-in-None-clause-seats : goal.returns-in-None-clause-seats
returns-in-None-clause-seats c = c.put.ensures.seats _ c.requires.number.1
