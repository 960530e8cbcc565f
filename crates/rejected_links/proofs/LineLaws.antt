-- A line, piece by piece.
use Rattle.std.proofs.Common.{◌≡◌, ℕ, List, [], ◌∷◌, ◌++◌, cond, Result, Ok, Err, ap, ◌∙◌, append_assoc}
use Rattle.std.specs.Prelude.{OnOk, is_ok}

-- what a push that went well added
pub on_ok_pushed : {T E : Type 0} (r : Result T E) (new old tail : List ℕ) → new ≡ cond (is_ok r) (old ++ tail) old → OnOk r (new ≡ old ++ tail)
on_ok_pushed (Ok x) new old tail is = is
on_ok_pushed (Err e) new old tail is = tt

-- three pieces and an end
pub joined : (a b c d w t p n : List ℕ) → b ≡ a ++ w → c ≡ b ++ t → d ≡ c ++ p → d ++ n ≡ a ++ (w ++ (t ++ (p ++ n)))
joined a b c d w t p n first second third =
    ap (λ (x : List ℕ). x ++ n) (third ∙ ap (λ (x : List ℕ). x ++ p) (second ∙ ap (λ (x : List ℕ). x ++ t) first))
    ∙ append_assoc ((a ++ w) ++ t) p n ∙ append_assoc (a ++ w) t (p ++ n) ∙ append_assoc a w (t ++ (p ++ n))

-- the columns of an address, in two halves
pub halves : (old first new u s h n p q : List ℕ) → first ≡ old ++ (9 ∷ (u ++ (9 ∷ (s ++ (9 ∷ (h ++ (9 ∷ n))))))) → new ≡ first ++ (9 ∷ (p ++ (9 ∷ (9 ∷ (q ++ (9 ∷ []))))))
    → new ≡ old ++ (9 ∷ (u ++ (9 ∷ (s ++ (9 ∷ (h ++ (9 ∷ (n ++ (9 ∷ (p ++ (9 ∷ (9 ∷ (q ++ (9 ∷ []))))))))))))))
halves old first new u s h n p q front back =
    let tail : List ℕ = 9 ∷ (p ++ (9 ∷ (9 ∷ (q ++ (9 ∷ []))))) in
    back ∙ ap (λ (x : List ℕ). x ++ tail) front
    ∙ append_assoc old (9 ∷ (u ++ (9 ∷ (s ++ (9 ∷ (h ++ (9 ∷ n))))))) tail
    ∙ ap (λ (x : List ℕ). old ++ (9 ∷ x))
    (append_assoc u (9 ∷ (s ++ (9 ∷ (h ++ (9 ∷ n))))) tail
    ∙ ap (λ (x : List ℕ). u ++ (9 ∷ x)) (append_assoc s (9 ∷ (h ++ (9 ∷ n))) tail ∙ ap (λ (x : List ℕ). s ++ (9 ∷ x)) (append_assoc h (9 ∷ n) tail)))
