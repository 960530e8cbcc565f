-- Nothing was written before the line of a record that can't be resumed.
use Rattle.std.proofs.Common.{inr, subst}
use Rattle.retriever.specs.Resuming.{IsUnresumed}
use Rattle.retriever.proofs.live_order.live_order.Goals as goal

pub returns-in-Err-clause-lives : goal.returns-in-Err-clause-lives
returns-in-Err-clause-lives g c =
    inr (
      c.in-Err.fault,
      c.in-Err.ensures.unresumed,
      subst (λ w. IsUnresumed (g.W.Write.contents w) (g.W.Write.contents c.refuse_resume.new.writer) c.in-Err.fault c.refuse_resume.result) c.in-Err.ensures.unwritten c.refuse_resume.ensures,
    )
