-- The words are an order, or are refused.
use Rattle.std.proofs.Common.{refl}
use Rattle.retriever.specs.declared.fault.Fault.TheVariants as fault
use Rattle.retriever.proofs.ProgramLaws.{is_live}
use Rattle.retriever.proofs.RunLaws.{ends_refused, runs_refused}
use Rattle.retriever.proofs.input_run.run.Goals as goal

pub returns-in-Ok : goal.returns-in-Ok
returns-in-Ok g c = record {
  runs = c.run_of_order-status.ensures.runs _ c.in-Ok.ensures.answers;
  unread = λ no. c.run_of_order-status.ensures.unread (is_live c.in-Ok.order.source (λ not. no (c.in-Ok.order, (c.in-Ok.ensures.answers, not))));
}

pub returns-in-Err : goal.returns-in-Err
returns-in-Err g c = record {
  runs = runs_refused _ _ _ _ (fault.Line c.in-Err.wrong) c.refuse.result (ends_refused _ _ (fault.Line c.in-Err.wrong) c.in-Err.ensures.answers) c.refuse.ensures;
  unread = λ no. refl;
}
