-- Lists of named things of which no two have one name.
use Rattle.std.proofs.Common.{◌≡◌, ◌≢◌, ℕ, ◌<◌, inl, inr, List, [], ◌∷◌, length, get_or, map, zero, suc, arith, sym, ◌∙◌, ap, refl}
use Rattle.std.specs.Prelude.{Contains}
use Rattle.std.proofs.lemmas.Bool.{cases_eq}
use Rattle.std.proofs.lemmas.List.{length-map, get_or-map}
use Rattle.std.proofs.lemmas.List.Edits.{swapped_from_swap, length-swap}
use Rattle.std.proofs.lemmas.List.Sorted.{IsPermutation-keeps}
use Rattle.std.specs.List.{swap}
use Rattle.std.specs.List.Sorted.{IsPermutation}
use Rattle.frontier_core.specs.Tables.{IsOnce}

-- where the element at k of ys is in xs: at the other of two places that were swapped, or at k
data Place {X : Type 0} (xs ys : List X) (i j : ℕ) (d : X) (k : ℕ) : Type 0 where
  first : k ≡ i → get_or ys k d ≡ get_or xs j d → Place xs ys i j d k
  second : k ≡ j → get_or ys k d ≡ get_or xs i d → Place xs ys i j d k
  other : k ≢ i → k ≢ j → get_or ys k d ≡ get_or xs k d → Place xs ys i j d k

place : {X : Type 0} (xs : List X) (i j : ℕ) (d : X) → i < length xs → j < length xs → (k : ℕ) → Place xs (swap xs i j) i j d k
place xs i j d li lj k =
    let moved = swapped_from_swap xs (swap xs i j) i j d li lj refl in
    elim (cases_eq k i) [
      | inl e ↦ first e (ap (λ (n : ℕ). get_or (swap xs i j) n d) e ∙ moved.0)
      | inr ne ↦ elim (cases_eq k j) [
        | inl e ↦ second e (ap (λ (n : ℕ). get_or (swap xs i j) n d) e ∙ moved.1)
        | inr nf ↦ other ne nf (moved.2 k ne nf)
      ]
    ]

module _ {X K : Type 0} (key : X → K) where
  -- no two places have one key
  abbrev pub Apart : List X → Type 0
  Apart xs = (a b : ℕ) (d : X) → a < length xs → b < length xs → key (get_or xs a d) ≡ key (get_or xs b d) → a ≡ b

  apart_places : (xs : List X) (i j : ℕ) (d : X) → i < length xs → j < length xs → Apart xs → (a b : ℕ) → a < length xs → b < length xs
      → Place xs (swap xs i j) i j d a → Place xs (swap xs i j) i j d b → key (get_or (swap xs i j) a d) ≡ key (get_or (swap xs i j) b d) → a ≡ b
  apart_places xs i j d li lj apart a b la lb (first e f) (first g h) same = e ∙ sym g
  apart_places xs i j d li lj apart a b la lb (first e f) (second g h) same = e ∙ sym (apart j i d lj li (sym (ap key f) ∙ same ∙ ap key h)) ∙ sym g
  apart_places xs i j d li lj apart a b la lb (first e f) (other g n h) same = absurd (n (sym (apart j b d lj lb (sym (ap key f) ∙ same ∙ ap key h))))
  apart_places xs i j d li lj apart a b la lb (second e f) (first g h) same = e ∙ sym (apart i j d li lj (sym (ap key f) ∙ same ∙ ap key h)) ∙ sym g
  apart_places xs i j d li lj apart a b la lb (second e f) (second g h) same = e ∙ sym g
  apart_places xs i j d li lj apart a b la lb (second e f) (other g n h) same = absurd (g (sym (apart i b d li lb (sym (ap key f) ∙ same ∙ ap key h))))
  apart_places xs i j d li lj apart a b la lb (other e m f) (first g h) same = absurd (m (apart a j d la lj (sym (ap key f) ∙ same ∙ ap key h)))
  apart_places xs i j d li lj apart a b la lb (other e m f) (second g h) same = absurd (e (apart a i d la li (sym (ap key f) ∙ same ∙ ap key h)))
  apart_places xs i j d li lj apart a b la lb (other e m f) (other g n h) same = apart a b d la lb (sym (ap key f) ∙ same ∙ ap key h)

  apart-swap : (xs : List X) (i j : ℕ) → i < length xs → j < length xs → Apart xs → Apart (swap xs i j)
  apart-swap xs i j li lj apart a b d la lb same =
      apart_places xs i j d li lj apart a b (omega (arith, length-swap xs i j)) (omega (arith, length-swap xs i j)) (place xs i j d li lj a) (place xs i j d li lj b) same

  pub Apart-IsPermutation : (xs ys : List X) → IsPermutation xs ys → Apart xs → Apart ys
  Apart-IsPermutation xs ys moved apart = IsPermutation-keeps xs Apart apart (λ l i j li lj h. apart-swap l i j li lj h) ys moved

module _ {X : Type 0} (key : X → List ℕ) where
  -- a name that is at a place is among the names
  named_at : (xs : List X) (k : ℕ) (d : X) → k < length xs → Contains (map key xs) (key (get_or xs k d))
  named_at xs k d lt = (k, omega (arith, length-map xs key), get_or-map key xs k d (key (get_or xs k d)) lt)

  -- if no name occurs twice, no two places have one
  pub Apart-from_once : (xs : List X) → IsOnce (map key xs) → Apart key xs
  Apart-from_once [] once a b d la lb same = absurd (omega arith)
  Apart-from_once (x ∷ xs) once zero zero d la lb same = refl
  Apart-from_once (x ∷ xs) once zero (suc b) d la lb same =
      absurd (once.0 (b, omega (arith, length-map xs key), get_or-map key xs b d (key x) (omega arith) ∙ sym same))
  Apart-from_once (x ∷ xs) once (suc a) zero d la lb same =
      absurd (once.0 (a, omega (arith, length-map xs key), get_or-map key xs a d (key x) (omega arith) ∙ same))
  Apart-from_once (x ∷ xs) once (suc a) (suc b) d la lb same = ap suc (Apart-from_once xs once.1 a b d (omega arith) (omega arith) same)
