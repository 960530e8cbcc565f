-- Each turn adds the text of one word.
use Rattle.std.proofs.Common.{◌≡◌, ◌∙◌, ◌<◌, ◌+◌, ◌++◌, ℕ, List, [], ◌∷◌, length, get_or, map, take, sym, ap}
use Rattle.std.proofs.lemmas.List.{map-append, take_more}
use Rattle.std.proofs.lemmas.Result.{IfOk-from_err}
use Rattle.workers.proofs.MoveLaws.{one_added}
use Rattle.retriever.proofs.program.texts_behind.Goals as goal

one_more : {T X N : Type 0} (now : T → N) (f : X → N) (xs : List X) (i : ℕ) (x : X) (done new : List T) (t : T) → i < length xs → x ≡ get_or xs i x → new ≡ done ++ t ∷ [] → now t ≡ f x
    → map now done ≡ map f (take i xs) → map now new ≡ map f (take (i + 1) xs)
one_more now f xs i x done new t within here is same so_far =
    let cut : take (i + 1) xs ≡ take i xs ++ x ∷ [] = take_more xs i x within ∙ ap (λ y. take i xs ++ y ∷ []) (sym here) in
    one_added done new t now is ∙ ap (λ ys. ys ++ now t ∷ []) so_far ∙ ap (λ y. map f (take i xs) ++ y ∷ []) same ∙ sym (ap (map f) cut ∙ map-append f (take i xs) (x ∷ []))

pub loop-word-preserved : goal.loop-word-preserved
loop-word-preserved c =
    one_more _ _ _ _ _ _ _ _ c.loop-word-test.true c.word-item.is c.in_ok-push.ensures.items c.as_str.ensures.value c.loop-word.invariant

pub returns-in_err-push : goal.returns-in_err-push
returns-in_err-push c = IfOk-from_err _ _ c.from_residual.ensures.0
