-- What was wrong with the starts before is wrong with all.
use Rattle.std.proofs.Common.{ap, inl, inr, subst, sym, ⊎_elim}
use Rattle.std.specs.Prelude.{Result}
use Rattle.options.specs.Order.{AnswersOrder, Ordered, guarded}
use Rattle.options.specs.declared.fault.LineFault.{LineFault}
use Rattle.options.proofs.read.with_all.Goals as goal

pub returns-in-Ok : goal.returns-in-Ok
returns-in-Ok c =
    subst (λ (read : Result Ordered LineFault). AnswersOrder c.guarded.result (guarded read)) (sym c.in-Ok.ensures) c.guarded.ensures

pub returns-in-Err : goal.returns-in-Err
returns-in-Err c = ⊎_elim (λ refused. inl (ap guarded refused)) (λ memory. inr memory) c.in-Err.ensures
