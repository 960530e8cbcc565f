-- The whole lines at the front, byte by byte.
use Rattle.std.proofs.Common.{◌≡◌, ◌≤◌, ◌<◌, ℕ, zero, suc, ◌+◌, List, [], ◌∷◌, ◌++◌, length, take, drop, get_or, refl, sym, ◌∙◌, ap, arith, append_assoc, drop-cons, add-one}
use Rattle.entry_lines.specs.Lines.{text, lines_from}

take_one : (bytes : List ℕ) (i : ℕ) → i < length bytes → take (suc i) bytes ≡ take i bytes ++ get_or bytes i 0 ∷ []
take_one [] i within = absurd (omega arith)
take_one (b ∷ bytes) zero within = refl
take_one (b ∷ bytes) (suc i) within = ap (λ (l : List ℕ). b ∷ l) (take_one bytes i (omega arith))

take_shorter : (w i : ℕ) (xs : List ℕ) → w ≤ i → take w xs ++ drop w (take i xs) ≡ take i xs
take_shorter zero i xs le = refl
take_shorter (suc w) zero xs le = absurd (omega arith)
take_shorter (suc w) (suc i) [] le = refl
take_shorter (suc w) (suc i) (x ∷ xs) le = ap (λ (l : List ℕ). x ∷ l) (take_shorter w i xs (omega arith))

nothing_more : (n : ℕ) (xs : List ℕ) → drop n (take n xs) ≡ []
nothing_more zero xs = refl
nothing_more (suc n) [] = refl
nothing_more (suc n) (x ∷ xs) = nothing_more n xs

-- the line feed after a line
pub step_line : (bytes : List ℕ) (w i : ℕ) → i < length bytes → w ≤ i → get_or bytes i 0 ≡ 10
    → take w bytes ++ text (lines_from (drop w (take i bytes)) (drop i bytes)) ≡ take (i + 1) bytes ++ text (lines_from (drop (i + 1) (take (i + 1) bytes)) (drop (i + 1) bytes))
step_line bytes w i within le is = rw add-one
    (let behind = lines_from [] (drop (suc i) bytes) in
    ap (λ (l : List ℕ). take w bytes ++ text (lines_from (drop w (take i bytes)) l)) (drop-cons bytes i 0 within ∙ ap (λ (x : ℕ). x ∷ drop (suc i) bytes) is)
    ∙ sym (append_assoc (take w bytes) (drop w (take i bytes)) (10 ∷ text behind))
    ∙ ap (λ (l : List ℕ). l ++ 10 ∷ text behind) (take_shorter w i bytes le)
    ∙ sym (append_assoc (take i bytes) (10 ∷ []) (text behind))
    ∙ ap (λ (l : List ℕ). l ++ text behind) (ap (λ (x : ℕ). take i bytes ++ x ∷ []) (sym is) ∙ sym (take_one bytes i within))
    ∙ ap (λ (l : List ℕ). take (suc i) bytes ++ text (lines_from l (drop (suc i) bytes))) (sym (nothing_more (suc i) bytes)))
