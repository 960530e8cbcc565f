-- What was wrong before is wrong with the credentials.
use Rattle.std.proofs.Common.{ap, inl, inr, map, subst, sym, ◌∙◌, ⊎_elim}
use Rattle.std.specs.Prelude.{Ok, Result}
use Rattle.options.specs.Order.{AnswersOrder, Ordered, guarded, logged, ordered_by, with_others}
use Rattle.options.specs.declared.fault.LineFault.{LineFault}
use Rattle.options.proofs.read.with_starts.Goals as goal

pub returns-in-Ok : goal.returns-in-Ok
returns-in-Ok c =
    let starts = map (λ text. text.now) c.args.starts.now in
    let others = ap (λ texts. guarded (with_others (map (λ text. text.now) texts) (Ok (ordered_by c.args.order)))) c.after_first.ensures in
    subst (λ (read : Result Ordered LineFault). AnswersOrder c.logged.result (logged starts read)) (sym (sym others ∙ c.in-Ok.ensures)) c.logged.ensures

pub returns-in-Err : goal.returns-in-Err
returns-in-Err c =
    let starts = map (λ text. text.now) c.args.starts.now in
    let others = ap (λ texts. guarded (with_others (map (λ text. text.now) texts) (Ok (ordered_by c.args.order)))) c.after_first.ensures in
    ⊎_elim (λ refused. inl (ap (logged starts) (sym others ∙ refused))) (λ memory. inr memory) c.in-Err.ensures
