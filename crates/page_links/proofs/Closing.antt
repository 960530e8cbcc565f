-- Where the text of a `style` element ends.
use Rattle.std.proofs.Common.{◌≡◌, ℕ, ◌<◌, ◌≤◌, suc, Bool, true, false, List, [], ◌∷◌, ◌++◌, length, take, drop, drop-cons, take-suc, get_or, if◌then◌else◌, ◌==◌, refl, sym, ◌∙◌, ap, append_assoc, append-nil, arith, rules}
use Rattle.std.proofs.lemmas.List.{take_all, drop_all}
use Rattle.std.proofs.lemmas.Bool.Decides.{nat_tests}
use Rattle.std.specs.Char.{to_ascii_lowercase}
use Rattle.html_links.specs.Pieces.{begins, lower}
use Rattle.html_links.specs.Markup.{style, raw_text, is_close, behind_close, ends_here}
use Rattle.page_links.specs.Places.{IsSheetText}

-- what is decided of a test
if_false : (t : Bool) → t ≡ false → (x y : List ℕ) → (if t then x else y) ≡ y
if_false t e x y = rw e refl

-- the text goes on here
record GoesOn (b : ℕ) (text rest : List ℕ) : Type 0 where
  open_ : is_close style (b ∷ (text ++ rest)) ≡ false
  is : raw_text style (text ++ rest) ≡ text

goes_on : (b : ℕ) (text rest : List ℕ) → IsSheetText (b ∷ text) rest → GoesOn b text rest
goes_on b text rest = go (is_close style (b ∷ (text ++ rest))) refl where
  go : (t : Bool) → is_close style (b ∷ (text ++ rest)) ≡ t → (if t then [] else b ∷ raw_text style (text ++ rest)) ≡ b ∷ text → GoesOn b text rest
  go true e h = absurd (cc)
  go false e h = record { open_ = e; is = ap (drop 1) h }

-- what follows the text
pub close_behind : (text end : List ℕ) → IsSheetText text end → behind_close style (text ++ end) ≡ behind_close style end
close_behind [] end h = refl
close_behind (b ∷ text) end h =
    let more : GoesOn b text end = goes_on b text end h in
    if_false (is_close style (b ∷ (text ++ end))) more.open_ _ (behind_close style (text ++ end)) ∙ close_behind text end more.is

-- its end
pub end_is : (text end : List ℕ) → IsSheetText text end → raw_text style end ≡ []
end_is [] end h = h
end_is (b ∷ text) end h = end_is text end (goes_on b text end h).is

-- ---- another text

less_lower : (b : ℕ) → to_ascii_lowercase b ≡ 60 → b ≡ 60
less_lower b e = grind (arith, nat_tests)

-- no byte of a word is `<`
abbrev HasNoLess : List ℕ → Type 0
HasNoLess [] = Unit {0}
HasNoLess (w ∷ ws) = ((60 == w) ≡ false) × HasNoLess ws

-- whether these bytes, and one that ends a tag's name, are at the front
abbrev completed : List ℕ → List ℕ → Bool
completed bytes text = if begins bytes (lower text) then ends_here (drop (length bytes) text) else false

if_none : (t : Bool) (x : Bool) → t ≡ false → (if t then x else false) ≡ false
if_none t x e = rw e refl

before_less : (words text rest : List ℕ) → HasNoLess words → completed words text ≡ false → completed words (text ++ 60 ∷ rest) ≡ false
before_less [] [] rest n h = refl
before_less [] (b ∷ text) rest n h = h
before_less (w ∷ words) [] rest n h = none (60 == w) n.0 where
  none : (t : Bool) → t ≡ false → (if (if t then begins words (lower rest) else false) then ends_here (drop (length words) rest) else false) ≡ false
  none true e = absurd (cc)
  none false e = refl
before_less (w ∷ words) (b ∷ text) rest n h = go (to_ascii_lowercase b == w) (before_less words text rest n.1) h where
  go : (t : Bool) → (completed words text ≡ false → completed words (text ++ 60 ∷ rest) ≡ false)
      → (if (if t then begins words (lower text) else false) then ends_here (drop (length words) text) else false) ≡ false
      → (if (if t then begins words (lower (text ++ 60 ∷ rest)) else false) then ends_here (drop (length words) (text ++ 60 ∷ rest)) else false) ≡ false
  go true more h = more h
  go false more h = refl

no_less : HasNoLess (47 ∷ style)
no_less = search rules

open_before_less : (b : ℕ) (text rest : List ℕ) → is_close style (b ∷ text) ≡ false → is_close style (b ∷ (text ++ 60 ∷ rest)) ≡ false
open_before_less b text rest h = go (to_ascii_lowercase b == 60) h where
  go : (t : Bool) → (if (if t then begins (47 ∷ style) (lower text) else false) then ends_here (drop (length (47 ∷ style)) text) else false) ≡ false
      → (if (if t then begins (47 ∷ style) (lower (text ++ 60 ∷ rest)) else false) then ends_here (drop (length (47 ∷ style)) (text ++ 60 ∷ rest)) else false) ≡ false
  go true h = before_less (47 ∷ style) text rest no_less h
  go false h = refl

-- what ends a text begins with `<`
record BeginsLess (end : List ℕ) : Type 0 where
  rest : List ℕ
  is : end ≡ 60 ∷ rest

begins_less : (b : ℕ) (end : List ℕ) → raw_text style (b ∷ end) ≡ [] → b ≡ 60
begins_less b end = go (is_close style (b ∷ end)) refl where
  first : (t : Bool) → (to_ascii_lowercase b == 60) ≡ t → (if (if t then begins (47 ∷ style) (lower end) else false) then ends_here (drop (length (47 ∷ style)) end) else false) ≡ true → b ≡ 60
  first true e h = less_lower b (grind (arith, nat_tests))
  first false e h = absurd (cc)

  go : (t : Bool) → is_close style (b ∷ end) ≡ t → (if t then [] else b ∷ raw_text style end) ≡ [] → b ≡ 60
  go true e h = first (to_ascii_lowercase b == 60) refl e
  go false e h = absurd (cc)

open_before : (b : ℕ) (text end : List ℕ) → raw_text style end ≡ [] → is_close style (b ∷ text) ≡ false → is_close style (b ∷ (text ++ end)) ≡ false
open_before b text [] e h = ap (λ (xs : List ℕ). is_close style (b ∷ xs)) (append-nil text) ∙ h
open_before b text (c ∷ end) e h =
    ap (λ first. is_close style (b ∷ (text ++ first ∷ end))) (begins_less c end e) ∙ open_before_less b text end h

-- a text that has no end by itself has none before that end
pub other_fits : (text end : List ℕ) → raw_text style text ≡ text → raw_text style end ≡ [] → IsSheetText text end
other_fits [] end h e = e
other_fits (b ∷ text) end h e = go (is_close style (b ∷ text)) refl h (λ same. other_fits text end same e) where
  go : (t : Bool) → is_close style (b ∷ text) ≡ t → (if t then [] else b ∷ raw_text style text) ≡ b ∷ text → (raw_text style text ≡ text → IsSheetText text end) → IsSheetText (b ∷ text) end
  go true open_ h more = absurd (cc)
  go false open_ h more =
      if_false (is_close style (b ∷ (text ++ end))) (open_before b text end e open_) [] (b ∷ raw_text style (text ++ end)) ∙ ap (λ xs. b ∷ xs) (more (ap (drop 1) h))

eqb : (b x : ℕ) → (b == x) ≡ true → b ≡ x
eqb b x e = grind (arith, nat_tests)

pub empty_is : (xs : List ℕ) → (length xs == 0) ≡ true → xs ≡ []
empty_is [] e = refl
empty_is (b ∷ bs) e = let h : length (b ∷ bs) ≡ 0 = eqb (length (b ∷ bs)) 0 e in absurd (omega arith)

pub fits_too : (sheet end text whole left : List ℕ) → IsSheetText sheet end → text ≡ whole ++ left → whole ≡ raw_text style text → left ≡ [] → IsSheetText text end
fits_too sheet end text whole left was bytes is none =
    let all : text ≡ whole = bytes ∙ ap (λ (xs : List ℕ). whole ++ xs) none ∙ append-nil whole in
    other_fits text end (sym is ∙ sym all) (end_is sheet end was)

-- ---- a search for the end

drop_at : (text : List ℕ) (i : ℕ) → i < length text → drop i text ≡ get_or text i 0 ∷ drop (suc i) text
drop_at text i h = drop-cons text i 0 h

raw_stop : (text : List ℕ) → is_close style text ≡ true → raw_text style text ≡ []
raw_stop [] e = refl
raw_stop (b ∷ text) e = rw e refl

raw_go : (b : ℕ) (text : List ℕ) → is_close style (b ∷ text) ≡ false → raw_text style (b ∷ text) ≡ b ∷ raw_text style text
raw_go b text e = rw e refl

pub stopped : (text : List ℕ) (i : ℕ) → is_close style (drop i text) ≡ true → raw_text style text ≡ take i text ++ raw_text style (drop i text) → raw_text style text ≡ take i text
stopped text i e f = f ∙ ap (λ (xs : List ℕ). take i text ++ xs) (raw_stop (drop i text) e) ∙ append-nil (take i text)

pub passed : (text : List ℕ) (i : ℕ) → i < length text → is_close style (drop i text) ≡ false → raw_text style text ≡ take i text ++ raw_text style (drop i text)
    → raw_text style text ≡ take (suc i) text ++ raw_text style (drop (suc i) text)
passed text i h e f =
    f ∙ ap (λ xs. take i text ++ raw_text style xs) (drop_at text i h)
    ∙ ap (λ (xs : List ℕ). take i text ++ xs) (raw_go (get_or text i 0) (drop (suc i) text) (ap (is_close style) (sym (drop_at text i h)) ∙ e))
    ∙ sym (append_assoc (take i text) (get_or text i 0 ∷ []) (raw_text style (drop (suc i) text))) ∙ ap (λ xs. xs ++ raw_text style (drop (suc i) text)) (sym (take-suc text i 0 h))

pub whole : (text : List ℕ) (i : ℕ) → length text ≤ i → raw_text style text ≡ take i text ++ raw_text style (drop i text) → text ≡ raw_text style text
whole text i h f = let all = rw (take_all i text h, drop_all i text h) at f in sym (all ∙ append-nil text)
