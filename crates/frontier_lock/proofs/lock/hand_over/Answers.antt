use Rattle.frontier_lock.proofs.Waits.{makes_one}
use Rattle.frontier_lock.proofs.lock.hand_over.Goals as goal

pub returns-in-Ok-clause-one : goal.returns-in-Ok-clause-one
returns-in-Ok-clause-one c = makes_one c.args.core.now c.answer.new.self _ c.in-Ok.ensures.ok

pub returns-in-Ok-robots_answer-clause-one : goal.returns-in-Ok-robots_answer-clause-one
returns-in-Ok-robots_answer-clause-one c = makes_one c.args.core.now c.robots_answer.new.self _ c.in-Ok-robots_answer.ensures.ok
