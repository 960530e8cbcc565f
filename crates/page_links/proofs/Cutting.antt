-- Values at the front of a text.
use Rattle.std.proofs.Common.{◌≡◌, ℕ, ◌≤◌, Bool, true, false, List, [], ◌∷◌, ◌++◌, length, if◌then◌else◌, ◌==◌, refl, sym, ◌∙◌, ap, ap₂, subst, arith}
use Rattle.std.proofs.lemmas.Bool.Decides.{nat_tests}
use Rattle.html_links.specs.Pieces.{until, from, beyond, is, is_white, is_not_white, is_quote, ends_bare_value}
use Rattle.html_links.specs.Markup.{Value, value_at, valued}
use Rattle.page_links.specs.Places.{IsValue, CanStand, IsCut}

-- ---- a text cut before the first byte that stops

until_from : (stops : ℕ → Bool) (xs : List ℕ) → xs ≡ until stops xs ++ from stops xs
until_from stops [] = refl
until_from stops (b ∷ bs) = go (stops b) (until_from stops bs) where
  go : (t : Bool) → bs ≡ until stops bs ++ from stops bs → b ∷ bs ≡ (if t then [] else b ∷ until stops bs) ++ (if t then b ∷ bs else from stops bs)
  go true h = refl
  go false h = ap (λ xs. b ∷ xs) h

-- what begins with a byte that stops
record Begins (stops : ℕ → Bool) (xs left : List ℕ) : Type 0 where
  first : ℕ
  others : List ℕ
  stops_at : stops first ≡ true
  is_left : left ≡ first ∷ others
  is_beyond : beyond stops xs ≡ others

begins : (stops : ℕ → Bool) (xs : List ℕ) → 1 ≤ length (from stops xs) → Begins stops xs (from stops xs)
begins stops [] h = absurd (omega arith)
begins stops (b ∷ bs) h = go (stops b) refl h (begins stops bs) where
  go : (t : Bool) → stops b ≡ t → 1 ≤ length (if t then b ∷ bs else from stops bs) → (1 ≤ length (from stops bs) → Begins stops bs (from stops bs))
      → Begins stops (b ∷ bs) (if t then b ∷ bs else from stops bs)
  go true e h g = record { first = b; others = bs; stops_at = e; is_left = refl; is_beyond = rw e refl }
  go false e h g = let found = g h in record { first = found.first; others = found.others; stops_at = found.stops_at; is_left = found.is_left; is_beyond = rw e found.is_beyond }

-- ---- in quotes

quoted_at : (quote : ℕ) (text : List ℕ) → is_quote quote ≡ true → value_at (quote ∷ text) ≡ valued (until (is quote) text) (beyond (is quote) text)
quoted_at quote text e = rw e refl

quote_is_black : (b : ℕ) → is_quote b ≡ true → is_white b ≡ false
quote_is_black b e = grind (arith, nat_tests)

from_black : (b : ℕ) (bs : List ℕ) → is_white b ≡ false → from is_not_white (b ∷ bs) ≡ b ∷ bs
from_black b bs e = rw e refl

eqb : (b x : ℕ) → (b == x) ≡ true → b ≡ x
eqb b x e = grind (arith, nat_tests)

pub quoted_cut : (quote : ℕ) (others value end : List ℕ) → is_quote quote ≡ true → value ≡ until (is quote) others → end ≡ from (is quote) others → 1 ≤ length end
    → IsCut (quote ∷ others) (quote ∷ []) value end
quoted_cut quote others value end q v e h =
    let found : Begins (is quote) others (from (is quote) others) = begins (is quote) others (subst (λ (xs : List ℕ). 1 ≤ length xs) e h) in
    let whole : others ≡ value ++ end = until_from (is quote) others ∙ ap₂ (λ (xs ys : List ℕ). xs ++ ys) (sym v) (sym e) in
    let ends : end ≡ quote ∷ found.others = e ∙ found.is_left ∙ ap (λ b. b ∷ found.others) (eqb found.first quote found.stops_at) in record {
      bytes = ap (λ xs. quote ∷ xs) whole;
      rest = found.others;
      is = from_quote (value ++ end) ∙ quoted_at quote (value ++ end) q
          ∙ ap (λ (xs : List ℕ). valued (until (is quote) xs) (beyond (is quote) xs)) (sym whole)
          ∙ ap₂ (λ xs ys. valued xs ys) (sym v) found.is_beyond;
      others = λ other stands. from_quote (other ++ end) ∙ ap (λ (xs : List ℕ). value_at (quote ∷ (other ++ xs))) ends ∙ stands.quoted quote found.others q;
    } where
      from_quote : (xs : List ℕ) → value_at (from is_not_white (quote ∷ xs)) ≡ value_at (quote ∷ xs)
      from_quote xs = ap value_at (from_black quote xs (quote_is_black quote q))

-- ---- without quotes

bare_at : (b : ℕ) (text : List ℕ) → is_quote b ≡ false → value_at (b ∷ text) ≡ valued (until ends_bare_value (b ∷ text)) (from ends_bare_value (b ∷ text))
bare_at b text e = rw e refl

white_ends : (b : ℕ) → is_white b ≡ true → ends_bare_value b ≡ true
white_ends b e = rw e refl

white_is_bare : (b : ℕ) → is_white b ≡ true → is_quote b ≡ false
white_is_bare b e = grind (arith, nat_tests)

until_stop : (stops : ℕ → Bool) (b : ℕ) (bs : List ℕ) → stops b ≡ true → until stops (b ∷ bs) ≡ []
until_stop stops b bs e = rw e refl

-- what can be a value doesn't begin with white
black : (b : ℕ) (bs : List ℕ) → CanStand (b ∷ bs) → is_white b ≡ false
black b bs stands = go (is_white b) refl where
  go : (t : Bool) → is_white b ≡ t → t ≡ false
  go false e = refl
  go true e =
      let empty : [] ≡ b ∷ bs = ap (λ (v : Value). v.value) (ap (λ xs. valued xs (from ends_bare_value (b ∷ (bs ++ 62 ∷ [])))) (sym (until_stop ends_bare_value b (bs ++ 62 ∷ []) (white_ends b e)))
      ∙ sym (bare_at b (bs ++ 62 ∷ []) (white_is_bare b e)) ∙ stands.bare 62 [] refl) in absurd (cc)

bare_other : (end : ℕ) (rest other : List ℕ) → ends_bare_value end ≡ true → CanStand other → IsValue [] other (end ∷ rest) (end ∷ rest)
bare_other end rest [] e stands = absurd (stands.present refl)
bare_other end rest (b ∷ bs) e stands = ap value_at (from_black b (bs ++ end ∷ rest) (black b bs stands)) ∙ stands.bare end rest e

pub bare_cut : (first : ℕ) (others value end : List ℕ) → is_quote first ≡ false → is_white first ≡ false
    → value ≡ until ends_bare_value (first ∷ others) → end ≡ from ends_bare_value (first ∷ others) → 1 ≤ length end → IsCut (first ∷ others) [] value end
bare_cut first others value end q w v e h =
    let found : Begins ends_bare_value (first ∷ others) (from ends_bare_value (first ∷ others)) = begins ends_bare_value (first ∷ others) (subst (λ (xs : List ℕ). 1 ≤ length xs) e h) in
    let whole : first ∷ others ≡ value ++ end = until_from ends_bare_value (first ∷ others) ∙ ap₂ (λ (xs ys : List ℕ). xs ++ ys) (sym v) (sym e) in
    let ends : end ≡ found.first ∷ found.others = e ∙ found.is_left in record {
      bytes = whole;
      rest = end;
      is = ap (λ (xs : List ℕ). value_at (from is_not_white xs)) (sym whole) ∙ ap value_at (from_black first others w) ∙ bare_at first others q
          ∙ ap₂ (λ xs ys. valued xs ys) (sym v) (sym e);
      others = λ other stands. subst (λ (xs : List ℕ). IsValue [] other xs xs) (sym ends) (bare_other found.first found.others other found.stops_at stands);
    }
