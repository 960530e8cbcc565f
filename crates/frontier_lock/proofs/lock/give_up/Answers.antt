use Rattle.frontier_lock.proofs.Waits.{stop_one, abandon_one}
use Rattle.frontier_lock.proofs.lock.give_up.Goals as goal

pub returns-in-None-clause-one : goal.returns-in-None-clause-one
returns-in-None-clause-one c = stop_one c.args.core.now c.stop.new.self c.args.cause c.stop.ensures.stops

pub returns-in-Some-Page-clause-one : goal.returns-in-Some-Page-clause-one
returns-in-Some-Page-clause-one c = abandon_one c.args.core.now c.abandon.new.self _ c.args.cause c.abandon.ensures.out c.abandon.ensures.stray

pub returns-in-Some-Rules-clause-one : goal.returns-in-Some-Rules-clause-one
returns-in-Some-Rules-clause-one c = abandon_one c.args.core.now c.abandon_robots.new.self _ c.args.cause c.abandon_robots.ensures.out c.abandon_robots.ensures.stray
