use Rattle.expressions.proofs.Compiling.{no_expression}
use Rattle.expressions.proofs.expression.fault_of.Goals as goal

pub returns-in_default : goal.returns-in_default
returns-in_default c =
    (no_expression c.args.text.now c.args.error.now.kind c.requires.refused c.in_default.not-OutOfMemory c.in_default.not-NestLimitExceeded, c.requires.place)
