-- The outcome is that of the stage.
use Rattle.std.proofs.Common.{sym}
use Rattle.response_answer.proofs.digester.Digester.finish.Goals as goal

pub returns-clause-outcome : goal.returns-clause-outcome
returns-clause-outcome c = rw (sym c.self.view_is) (λ h body taken. c.in_ok-outcome.ensures h body taken.1)
