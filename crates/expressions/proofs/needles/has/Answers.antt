-- What is nowhere doesn't occur.
use Rattle.std.proofs.Common.{arith}
use Rattle.expressions.proofs.Compiling.{occurs_alike}
use Rattle.expressions.proofs.needles.has.Goals as goal

pub returns-in-None : goal.returns-in-None
returns-in-None c = λ k occurs. absurd (c.in-None.ensures k (omega arith) (omega (arith, occurs.fits)) (occurs_alike c.args.text.now c.args.needle.now k occurs))
