-- Each turn moves a word; at the end none is left.
use Rattle.std.proofs.Common.{◌≡◌, ◌∙◌, ◌++◌, [], ◌∷◌, List, length, sym, ap, refl, append_assoc, append-nil, arith}
use Rattle.std.specs.Vec.Iter.{into_iter_items, into_iter_len}
use Rattle.retriever.proofs.program.all_words.Goals as goal

nothing_left : {X : Type 0} (l : List X) → length l ≡ 0 → l ≡ []
nothing_left [] h = refl
nothing_left (x ∷ xs) h = absurd (omega arith)

pub loop-word-preserved : goal.loop-word-preserved
loop-word-preserved c =
    let at = c.loop-word in
    let steps : into_iter_items at.word-iterator ≡ c.in-Some.word ∷ into_iter_items c.next.new.self = c.in-Some.ensures.steps.0 in
    ap (λ xs. xs ++ into_iter_items c.next.new.self) c.in_ok-push.ensures.items ∙ append_assoc at.all.items (c.in-Some.word ∷ []) _ ∙ rw (← steps) at.invariant

pub returns : goal.returns
returns c =
    let at = c.loop-word in
    let none : into_iter_len at.word-iterator ≡ 0 = c.in-None.ensures.steps.0 in
    let counted : into_iter_len at.word-iterator ≡ length (into_iter_items at.word-iterator) = at.word-iterator.rest.ok.0 in
    let empty : into_iter_items at.word-iterator ≡ [] = nothing_left _ (sym counted ∙ none) in
    sym (append-nil at.all.items) ∙ rw empty at at.invariant ∙ ap into_iter_items c.into_iter-word-iterator.ensures.into_iter_gives
