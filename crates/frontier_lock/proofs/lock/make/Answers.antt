use Rattle.std.proofs.Common.{rules}
use Rattle.frontier_lock.proofs.Waits.{unmoved}
use Rattle.frontier_lock.proofs.lock.make.Goals as goal

pub returns-clause-woken : goal.returns-clause-woken
returns-clause-woken g c = unmoved c.args.core.now c.step-answer.new.arg2 c.can_end_waits-wakes.result (search rules) (search rules)
