-- The command takes the arguments in turn.
use Rattle.std.proofs.lemmas.Result.{IfOk-weaker}
use Rattle.options.proofs.LineLemmas.{gives_line}
use Rattle.options.proofs.line.command.Goals as goal

pub returns : goal.returns
returns c =
    IfOk-weaker c.args-2.result _ _ (λ last turns. gives_line _ c.empty_command.result last c.in_ok-arguments.ensures.own c.in_ok-arguments.ensures.rules c.empty_command.ensures turns) c.args-2.ensures
