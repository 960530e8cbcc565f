-- The word is a long form, or it isn't.
use Rattle.std.proofs.Common.{◌∙◌, ◌++◌, ap, map}
use Rattle.std.proofs.lemmas.Result.{IfOk-weaker}
use Rattle.options.specs.Said.{Hearing, heard, heard_as, heard_by, long_meaning}
use Rattle.options.specs.inner.Said.{saying_in}
use Rattle.options.proofs.said.hear.Goals as goal

pub returns-in-Some-clause-said : goal.returns-in-Some-clause-said
unfolding heard
returns-in-Some-clause-said c =
    let is = ap (heard_as c.args.word.now) (c.long_meaning.ensures ∙ ap (λ p. long_meaning p.0 p.1) c.split_value.ensures) ∙ ap (heard_by c.args.word.now) c.in-Some.ensures in
    IfOk-weaker c.hear_as.result _ _ (λ next says. says ∙ ap (λ (h : Hearing). map saying_in c.args.said.now.items ++ h.said) is) c.hear_as.ensures.said

pub returns-in-Some-clause-state : goal.returns-in-Some-clause-state
unfolding heard
returns-in-Some-clause-state c =
    let is = ap (heard_as c.args.word.now) (c.long_meaning.ensures ∙ ap (λ p. long_meaning p.0 p.1) c.split_value.ensures) ∙ ap (heard_by c.args.word.now) c.in-Some.ensures in
    IfOk-weaker c.hear_as.result _ _ (λ next says. says ∙ ap (λ (h : Hearing). h.state) is) c.hear_as.ensures.state

pub returns-in-None-clause-said : goal.returns-in-None-clause-said
unfolding heard
returns-in-None-clause-said c =
    IfOk-weaker c.hear_short.result _ _ (λ next says. says ∙ ap (λ name. map saying_in c.args.said.now.items ++ (heard_by c.args.word.now name).said) c.in-None.ensures) c.hear_short.ensures.said

pub returns-in-None-clause-state : goal.returns-in-None-clause-state
unfolding heard
returns-in-None-clause-state c =
    IfOk-weaker c.hear_short.result _ _ (λ next says. says ∙ ap (λ name. (heard_by c.args.word.now name).state) c.in-None.ensures) c.hear_short.ensures.state
