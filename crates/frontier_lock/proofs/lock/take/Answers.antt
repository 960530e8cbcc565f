use Rattle.frontier_lock.proofs.Waits.{take_one, take_still}
use Rattle.frontier_lock.proofs.lock.take.Goals as goal

pub returns-clause-one : goal.returns-clause-one
returns-clause-one c = take_one c.args.core.now c.take.new.self c.args.worker c.take.result c.take.ensures.ok c.take.ensures.err

pub returns-clause-still : goal.returns-clause-still
returns-clause-still c = take_still c.args.core.now c.take.new.self c.args.worker c.take.result c.take.ensures.ok c.take.ensures.err
