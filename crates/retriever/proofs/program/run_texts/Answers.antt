-- Words that order something are run or retrieved; of others the fault is reported.
use Rattle.std.proofs.Common.{inl, inr, refl}
use Rattle.retriever.proofs.LogLaws.{logged_more}
use Rattle.retriever.proofs.ProgramLaws.{starts_order, starts_wrong}
use Rattle.retriever.proofs.program.run_texts.Goals as goal

pub returns-in-Ok-clause-starts : goal.returns-in-Ok-clause-starts
returns-in-Ok-clause-starts g c =
    starts_order _ _ _ _ refl _ c.in-Ok.order c.in-Ok.ensures.answers (λ not. c.run_order-status.ensures.runs not _ c.in-Ok.ensures.answers) (λ is. c.run_order-status.ensures.lives is _ c.in-Ok.ensures.answers) c.run_order-status.ensures.unread

pub returns-in-Err-clause-starts : goal.returns-in-Err-clause-starts
returns-in-Err-clause-starts g c = starts_wrong _ _ _ _ refl _ c.in-Err.wrong c.in-Err.ensures.answers (λ refused. inr refused) c.explain.ensures.explained c.explain.ensures.quiet

pub returns-in-Ok-clause-logged : goal.returns-in-Ok-clause-logged
returns-in-Ok-clause-logged g c =
    logged_more _ _ _ _ c.run_order-status.ensures.logged (λ text is. (c.in-Ok.order, c.in-Ok.ensures.answers, is))

pub returns-in-Err-clause-logged : goal.returns-in-Err-clause-logged
returns-in-Err-clause-logged g c = inl refl
