-- Searches for the byte that ends a part of a sheet, from the front of a text and from its end.
use Rattle.std.proofs.Common.{◌≡◌, ℕ, ◌<◌, ◌≤◌, zero, suc, Bool, true, false, List, [], ◌∷◌, ◌++◌, length, take, drop, reverse, drop-cons, take-suc, get_or, if◌then◌else◌, ◌==◌, refl, sym, ◌∙◌, ap, arith, append_assoc, append-nil}
use Rattle.std.proofs.lemmas.List.{take_all, drop_all, reverse-append, reverse-reverse, append_cancel_left}
use Rattle.memchr.specs.Find.{Nowhere, is_byte, Passes}
use Rattle.css_links.specs.inner.Spans.{until, from, is}

-- ---- a search for a byte

pub found_at : (x : ℕ) (text : List ℕ) (k : ℕ) → k < length text → Nowhere (Passes (is_byte x) text) 0 k → Passes (is_byte x) text k
    → (until (is x) text ≡ take k text) × (from (is x) text ≡ drop k text)
found_at x [] k h n p = absurd (omega arith)
found_at x (b ∷ bs) zero h n p = (rw p refl, rw p refl)
found_at x (b ∷ bs) (suc k) h n p = go (b == x) refl (found_at x bs k (omega arith) (λ j _ below. n (suc j) (omega arith) (omega arith)) p) where
  go : (t : Bool) → (b == x) ≡ t → (until (is x) bs ≡ take k bs) × (from (is x) bs ≡ drop k bs)
      → ((if t then [] else b ∷ until (is x) bs) ≡ b ∷ take k bs) × ((if t then b ∷ bs else from (is x) bs) ≡ drop k bs)
  go true e g = absurd (n 0 (omega arith) (omega arith) e)
  go false e g = (ap (λ text. b ∷ text) g.0, g.1)

pub found_nowhere : (x : ℕ) (text : List ℕ) → Nowhere (Passes (is_byte x) text) 0 (length text) → (until (is x) text ≡ text) × (from (is x) text ≡ [])
found_nowhere x [] n = (refl, refl)
found_nowhere x (b ∷ bs) n = go (b == x) refl (found_nowhere x bs (λ j _ below. n (suc j) (omega arith) (omega arith))) where
  go : (t : Bool) → (b == x) ≡ t → (until (is x) bs ≡ bs) × (from (is x) bs ≡ [])
      → ((if t then [] else b ∷ until (is x) bs) ≡ b ∷ bs) × ((if t then b ∷ bs else from (is x) bs) ≡ [])
  go true e g = absurd (n 0 (omega arith) (omega arith) e)
  go false e g = (ap (λ text. b ∷ text) g.0, g.1)

-- ---- a search for a class of bytes

from_go : (stops : ℕ → Bool) (b : ℕ) (bs : List ℕ) → stops b ≡ false → from stops (b ∷ bs) ≡ from stops bs
from_go stops b bs e = rw e refl

until_stop : (stops : ℕ → Bool) (b : ℕ) (bs : List ℕ) → stops b ≡ true → until stops (b ∷ bs) ≡ []
until_stop stops b bs e = rw e refl

drop_at : (text : List ℕ) (i : ℕ) → i < length text → drop i text ≡ get_or text i 0 ∷ drop (suc i) text
drop_at text i h = drop-cons text i 0 h

pub stopped_until : (stops : ℕ → Bool) (text : List ℕ) (i : ℕ) → i < length text → stops (get_or text i 0) ≡ true
    → until stops text ≡ take i text ++ until stops (drop i text) → until stops text ≡ take i text
stopped_until stops text i h e f =
    f ∙ ap (λ xs. take i text ++ until stops xs) (drop_at text i h) ∙ ap (λ xs. take i text ++ xs) (until_stop stops (get_or text i 0) (drop (suc i) text) e) ∙ append-nil (take i text)

from_stop : (stops : ℕ → Bool) (b : ℕ) (bs : List ℕ) → stops b ≡ true → from stops (b ∷ bs) ≡ b ∷ bs
from_stop stops b bs e = rw e refl

pub stopped_from : (stops : ℕ → Bool) (text : List ℕ) (i : ℕ) → i < length text → stops (get_or text i 0) ≡ true
    → from stops text ≡ from stops (drop i text) → from stops text ≡ drop i text
stopped_from stops text i h e f =
    f ∙ ap (from stops) (drop_at text i h) ∙ from_stop stops (get_or text i 0) (drop (suc i) text) e ∙ sym (drop_at text i h)

until_go : (stops : ℕ → Bool) (b : ℕ) (bs : List ℕ) → stops b ≡ false → until stops (b ∷ bs) ≡ b ∷ until stops bs
until_go stops b bs e = rw e refl

pub passed_until : (stops : ℕ → Bool) (text : List ℕ) (i : ℕ) → i < length text → stops (get_or text i 0) ≡ false
    → until stops text ≡ take i text ++ until stops (drop i text) → until stops text ≡ take (suc i) text ++ until stops (drop (suc i) text)
passed_until stops text i h e f =
    f ∙ ap (λ xs. take i text ++ until stops xs) (drop_at text i h) ∙ ap (λ xs. take i text ++ xs) (until_go stops (get_or text i 0) (drop (suc i) text) e)
    ∙ sym (append_assoc (take i text) (get_or text i 0 ∷ []) (until stops (drop (suc i) text))) ∙ ap (λ xs. xs ++ until stops (drop (suc i) text)) (sym (take-suc text i 0 h))

pub ended_until : (stops : ℕ → Bool) (text : List ℕ) (i : ℕ) → length text ≤ i → until stops text ≡ take i text ++ until stops (drop i text) → text ≡ until stops text
ended_until stops text i h f = let whole = rw (take_all i text h, drop_all i text h) at f in sym (whole ∙ append-nil text)

pub ended_from : (stops : ℕ → Bool) (text : List ℕ) (i : ℕ) → length text ≤ i → from stops text ≡ from stops (drop i text) → [] ≡ from stops text
ended_from stops text i h f = sym (f ∙ ap (from stops) (drop_all i text h))

pub passed_from : (stops : ℕ → Bool) (text : List ℕ) (i : ℕ) → i < length text → stops (get_or text i 0) ≡ false
    → from stops text ≡ from stops (drop i text) → from stops text ≡ from stops (drop (suc i) text)
passed_from stops text i h e f = f ∙ ap (from stops) (drop_at text i h) ∙ from_go stops (get_or text i 0) (drop (suc i) text) e

-- ---- a search from the end

pub until_from : (stops : ℕ → Bool) (xs : List ℕ) → until stops xs ++ from stops xs ≡ xs
until_from stops [] = refl
until_from stops (b ∷ bs) = go (stops b) refl (until_from stops bs) where
  go : (t : Bool) → stops b ≡ t → until stops bs ++ from stops bs ≡ bs → (if t then [] else b ∷ until stops bs) ++ (if t then b ∷ bs else from stops bs) ≡ b ∷ bs
  go true e h = refl
  go false e h = ap (λ text. b ∷ text) h

-- a text is what is before the part at its end, and the part
pub cut_at_end : (stops : ℕ → Bool) (text : List ℕ) → text ≡ reverse (from stops (reverse text)) ++ reverse (until stops (reverse text))
cut_at_end stops text =
    sym (reverse-reverse text) ∙ ap reverse (sym (until_from stops (reverse text))) ∙ reverse-append (until stops (reverse text)) (from stops (reverse text))

-- the part at the end, if the front is known
pub end_is : (stops : ℕ → Bool) (text front end : List ℕ) → text ≡ front ++ end → front ≡ reverse (from stops (reverse text)) → end ≡ reverse (until stops (reverse text))
end_is stops text front end whole is_front =
    append_cancel_left front end (reverse (until stops (reverse text)))
    (sym whole ∙ cut_at_end stops text ∙ ap (λ f. f ++ reverse (until stops (reverse text))) (sym is_front))

pub take_front : (xs ys : List ℕ) → take (length xs) (xs ++ ys) ≡ xs
take_front [] ys = refl
take_front (x ∷ xs) ys = ap (λ text. x ∷ text) (take_front xs ys)

pub drop_front : (xs ys : List ℕ) → drop (length xs) (xs ++ ys) ≡ ys
drop_front [] ys = refl
drop_front (x ∷ xs) ys = drop_front xs ys
