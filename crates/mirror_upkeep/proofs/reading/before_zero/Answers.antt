use Rattle.mirror_upkeep.proofs.ZeroLaws.{found_none, found_zero}
use Rattle.mirror_upkeep.proofs.reading.before_zero.Goals as goal

pub returns-in-Some : goal.returns-in-Some
returns-in-Some c = found_zero c.args.bytes.now c.in-Some.at c.in-Some.ensures.0.high c.in-Some.ensures.0.before c.in-Some.ensures.1

pub returns-in-None : goal.returns-in-None
returns-in-None c = found_none c.args.bytes.now c.in-None.ensures
