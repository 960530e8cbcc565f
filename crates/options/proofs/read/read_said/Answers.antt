-- Each word is read, or the first that isn't is named; the other starts follow the first.
use Rattle.std.proofs.Common.{◌∙◌, List, ap, drop, inl, inr, map, subst, sym, ⊎_elim}
use Rattle.std.specs.Prelude.{Err, Ok}
use Rattle.std.proofs.lemmas.List.{drop-map}
use Rattle.options.specs.Line.{rows}
use Rattle.options.specs.Order.{AnswersOrder, guarded, logged, order_said, ordered_by, with_others}
use Rattle.options.specs.Written.{others_in, starts_in, written}
use Rattle.options.specs.inner.Said.{saying_in}
use Rattle.options.proofs.ReadLemmas.{answers-more}
use Rattle.options.proofs.SameLemmas.{order_read, order_unread}
use Rattle.options.proofs.read.read_said.Goals as goal

pub returns-in-Some : goal.returns-in-Some
returns-in-Some c =
    let said = map saying_in c.args.said.now in
    ⊎_elim
    (λ refused. inl (order_unread said c.in-Some.word.now (sym c.in-Some.ensures) ∙ ap Err (sym refused)))
    (λ memory. inr (inl memory))
    c.unread_fault.ensures

pub returns-in-Err : goal.returns-in-Err
returns-in-Err c =
    let said = map saying_in c.args.said.now in
    ⊎_elim
    (λ refused. inl (order_read said (sym c.in_default.ensures) ∙ ap (λ order. logged (starts_in said) (guarded (with_others (others_in said) order))) refused))
    (λ unsaid. inr unsaid)
    c.in-Err.ensures

pub returns : goal.returns
returns c =
    let said = map saying_in c.args.said.now in
    let texts = ap (map (λ word. word.now)) c.as_slice.ensures.value ∙ c.in-Ok-starts.ensures in
    let others = ap (λ (words : List _). map (λ word. word.now) (drop 1 words)) c.as_slice.ensures.value
    ∙ sym (drop-map (λ word. word.now) 1 c.in-Ok-starts.starts.items) ∙ ap (drop 1) c.in-Ok-starts.ensures in
    answers-more (rows (written said)) c.with_starts-order.result (order_said said)
    (subst
    (AnswersOrder c.with_starts-order.result)
    (ap (λ starts. logged starts (guarded (with_others (map (λ word. word.now) (drop 1 c.as_slice.result.now)) (Ok (ordered_by c.in-Ok.order))))) texts
    ∙ ap (λ more. logged (starts_in said) (guarded (with_others more (Ok (ordered_by c.in-Ok.order))))) others
    ∙ ap (λ order. logged (starts_in said) (guarded (with_others (others_in said) order))) (sym c.in-Ok.ensures)
    ∙ sym (order_read said (sym c.in_default.ensures)))
    c.with_starts-order.ensures)
