-- Texts that are cut at a byte.
use Rattle.std.proofs.Common.{◌≡◌, ◌∙◌, ℕ, ◌+◌, ◌-◌, ◌<◌, ◌≤◌, suc, ◌==◌, Bool, true, false, cond, not, List, [], ◌∷◌, length, take, drop, Option, Some, None, option_map, unwrap_or, refl, sym, ap, subst, arith, length-drop, ⊎_elim}
use Rattle.std.proofs.lemmas.Bool.{cases_Bool, ltb-true, ltb-false}
use Rattle.std.proofs.lemmas.List.Splits.{slice_split_first}
use Rattle.std.specs.Prelude.{nat_lt, position}
use Rattle.std.specs.List.{position_or_len, onto_first, slice_split}
use Rattle.cookie_files.specs.Lines.{Text, cut}

-- ---- where the first that passes is

placed_so : {X : Type 0} (p : X → Bool) (xs : List X) (b : Bool) (r : Option ℕ) → nat_lt (position_or_len p xs) (length xs) ≡ b → cond b (Some (position_or_len p xs)) None ≡ r → (r ≡ None → length xs ≤ position_or_len p xs) × ((i : ℕ) → r ≡ Some i → (position_or_len p xs ≡ i) × (position_or_len p xs < length xs))
placed_so p xs true r e is = (λ none. cc, λ i some. (cc, ltb-true _ _ e))
placed_so p xs false r e is = (λ none. ltb-false _ _ e, λ i some. cc)

pub place_is : {X : Type 0} (p : X → Bool) (xs : List X) (i : ℕ) → position p xs ≡ Some i → (position_or_len p xs ≡ i) × (position_or_len p xs < length xs)
place_is p xs i is = (placed_so p xs (nat_lt (position_or_len p xs) (length xs)) (Some i) refl is).1 i refl

pub no_place : {X : Type 0} (p : X → Bool) (xs : List X) → position p xs ≡ None → length xs ≤ position_or_len p xs
no_place p xs is = (placed_so p xs (nat_lt (position_or_len p xs) (length xs)) None refl is).0 refl

pub place_within : {X : Type 0} (p : X → Bool) (xs : List X) → position_or_len p xs ≤ length xs
place_within p [] = omega arith
place_within p (x ∷ xs) =
    ⊎_elim
    (λ yes. subst (λ b. cond (not b) (1 + position_or_len p xs) 0 ≤ length (x ∷ xs)) (sym yes) (omega arith))
    (λ no. subst (λ b. cond (not b) (1 + position_or_len p xs) 0 ≤ length (x ∷ xs)) (sym no) (let rest = place_within p xs in omega (arith, rest)))
    (cases_Bool (p x))

-- ---- the parts of a text

abbrev parted : Text → ℕ → Text × Text
parted text at = (take at text, drop (at + 1) text)

parts_of : (text : Text) (o : Option ℕ) (a b : Text) → option_map (parted text) o ≡ Some (a, b) → (i : ℕ) × (o ≡ Some i) × (take i text ≡ a) × (drop (i + 1) text ≡ b)
parts_of text None a b is = cc
parts_of text (Some i) a b is =
    let left : Option (Text × Text) → Text = λ o. (unwrap_or o ([], [])).0 in
    let right : Option (Text × Text) → Text = λ o. (unwrap_or o ([], [])).1 in
    (i, refl, ap left is, ap right is)

no_parts : (text : Text) (o : Option ℕ) → option_map (parted text) o ≡ None → o ≡ None
no_parts text None is = refl
no_parts text (Some i) is = cc

split_whole : (mark : ℕ → Bool) (xs : Text) → length xs ≤ position_or_len mark xs → slice_split mark xs ≡ xs ∷ []
split_whole mark [] none = refl
split_whole mark (x ∷ xs) none =
    ⊎_elim
    (λ yes.
    let bad : suc (length xs) ≤ 0 = subst (λ b. suc (length xs) ≤ cond (not b) (1 + position_or_len mark xs) 0) yes none in
    absurd (omega arith))
    (λ no.
    let later : suc (length xs) ≤ 1 + position_or_len mark xs = subst (λ b. suc (length xs) ≤ cond (not b) (1 + position_or_len mark xs) 0) no none in
    ap (λ b. cond b ([] ∷ slice_split mark xs) (onto_first x (slice_split mark xs))) no
    ∙ ap (onto_first x) (split_whole mark xs (omega arith)))
    (cases_Bool (mark x))

-- a text with a mark is what is before it, and what the rest is split into
pub split_more : (mark : ℕ) (text a b : Text) → cut mark text ≡ Some (a, b) → (slice_split (λ byte. byte == mark) text ≡ a ∷ slice_split (λ byte. byte == mark) b) × (length b < length text)
unfolding cut
split_more mark text a b is =
    let p : ℕ → Bool = λ byte. byte == mark in
    let parts = parts_of text (position p text) a b is in
    let place = place_is p text parts.0 parts.1 in
    let size : length (drop (parts.0 + 1) text) ≡ length text - (parts.0 + 1) = length-drop (parts.0 + 1) text in
    let less : length (drop (parts.0 + 1) text) < length text = omega (arith, size, place.0, place.1) in (
      slice_split_first p text 0 place.1
          ∙ ap (λ n. take n text ∷ slice_split p (drop (n + 1) text)) place.0
          ∙ ap (λ front. front ∷ slice_split p (drop (parts.0 + 1) text)) parts.2
          ∙ ap (λ rest. a ∷ slice_split p rest) parts.3,
      subst (λ rest. length rest < length text) parts.3 less,
    )

-- a text without one is whole
pub split_last : (mark : ℕ) (text : Text) → cut mark text ≡ None → slice_split (λ byte. byte == mark) text ≡ text ∷ []
unfolding cut
split_last mark text is =
    let p : ℕ → Bool = λ byte. byte == mark in
    split_whole p text (no_place p text (no_parts text (position p text) is))
