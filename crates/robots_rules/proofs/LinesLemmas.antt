-- The places of a line's key and value.
use Rattle.std.proofs.Common.{◌≡◌, ℕ, ◌+◌, ◌≤◌, Bool, true, false, cond, not, ◌==◌, List, [], ◌∷◌, ◌++◌, length, take, drop, map, Option, Some, None, sym, refl, ap, ◌∙◌, arith, append-nil}
use Rattle.std.proofs.lemmas.Bool.{cond-true, cond-false, ltb-false}
use Rattle.std.proofs.lemmas.List.Quantifiers.{position-Some}
use Rattle.std.proofs.lemmas.List.Folds.{list_any_at}
use Rattle.std.proofs.lemmas.List.Elements.{filter_map-append}
use Rattle.std.proofs.lemmas.Iterator.{YieldsList}
use Rattle.std.proofs.lemmas.Iterator.Consumers.{YieldsList-end}
use Rattle.std.specs.Iterator.{Yields}
use Rattle.std.specs.Prelude.{position, nat_lt}
use Rattle.std.specs.List.{list_any, position_or_len, before_first, after_first, cons_option, filter_map}
use Rattle.robots_rules.specs.Lines.{line_of, line_by, uncommented, without_blanks}

-- what is read of the key and the value of a text without comments
abbrev pub colon_by : {X : Type 0} → (List ℕ → List ℕ → Option X) → List ℕ → Option X
colon_by by text =
    cond (list_any (λ octet. octet == 58) text)
    (by (without_blanks (before_first (λ octet. octet == 58) text)) (without_blanks (after_first (λ octet. octet == 58) text)))
    None

further : {X : Type 0} (p : X → Bool) (x : X) (xs : List X) (b : Bool) → p x ≡ b → length (x ∷ xs) ≤ position_or_len p (x ∷ xs) → (length xs ≤ position_or_len p xs) × (b ≡ false)
further p x xs true e h = (let here : position_or_len p (x ∷ xs) ≡ 0 = ap (λ b. cond (not b) (1 + position_or_len p xs) 0) e in absurd (omega arith))
further p x xs false e h =
    (let next : position_or_len p (x ∷ xs) ≡ 1 + position_or_len p xs = ap (λ b. cond (not b) (1 + position_or_len p xs) 0) e in (omega arith, refl))

-- if none passes, the test of the whole fails
list_any-not_found : {X : Type 0} (p : X → Bool) (xs : List X) → length xs ≤ position_or_len p xs → list_any p xs ≡ false
list_any-not_found p [] h = refl
list_any-not_found p (x ∷ xs) h = let rest = further p x xs (p x) refl h in rw rest.1 (list_any-not_found p xs rest.0)

place_of : {X : Type 0} (p : X → Bool) (xs : List X) (b : Bool) (k : ℕ) (r : Option ℕ) → cond b (Some k) None ≡ r → (r ≡ None → b ≡ false) × ((i : ℕ) → r ≡ Some i → k ≡ i)
place_of p xs true k r e = (λ none. cc, λ i is. cc)
place_of p xs false k r e = (λ none. refl, λ i is. cc)

-- whatever is read of a key and a value: nothing without a colon
pub no_colon_by : {X : Type 0} (by : List ℕ → List ℕ → Option X) (text whole : List ℕ) → text ≡ uncommented whole → position (λ octet. octet == 58) text ≡ None → colon_by by (uncommented whole) ≡ None
no_colon_by by text whole is none =
    let p : ℕ → Bool = λ octet. octet == 58 in
    let past : nat_lt (position_or_len p text) (length text) ≡ false = (place_of p text (nat_lt (position_or_len p text) (length text)) (position_or_len p text) None none).0 refl in
    cond-false _ _ _ (sym (ap (list_any p) is) ∙ list_any-not_found p text (ltb-false _ _ past))

-- else what the two say around it
pub at_colon_by : {X : Type 0} (by : List ℕ → List ℕ → Option X) (text whole : List ℕ) (i : ℕ) → text ≡ uncommented whole → position (λ octet. octet == 58) text ≡ Some i → colon_by by (uncommented whole) ≡ by (without_blanks (take i text)) (without_blanks (drop (i + 1) text))
at_colon_by by text whole i is found =
    let p : ℕ → Bool = λ octet. octet == 58 in
    let at : position_or_len p text ≡ i = (place_of p text (nat_lt (position_or_len p text) (length text)) (position_or_len p text) (Some i) found).1 i refl in
    let place = position-Some p text i 0 found in
    cond-true _ _ _ (sym (ap (list_any p) is) ∙ list_any_at p text i 0 place.0 place.1)
    ∙ ap (λ t. by (without_blanks (before_first p t)) (without_blanks (after_first p t))) (sym is)
    ∙ ap (λ k. by (without_blanks (take k text)) (without_blanks (drop (k + 1) text))) at

pub no_colon : (text whole : List ℕ) → text ≡ uncommented whole → position (λ octet. octet == 58) text ≡ None → line_of whole ≡ None
unfolding line_of
no_colon text whole is none = no_colon_by line_by text whole is none

pub at_colon : (text whole : List ℕ) (i : ℕ) → text ≡ uncommented whole → position (λ octet. octet == 58) text ≡ Some i → line_of whole ≡ line_by (without_blanks (take i text)) (without_blanks (drop (i + 1) text))
unfolding line_of
at_colon text whole i is found = at_colon_by line_by text whole i is found

-- one more line
pub said_more : {B L : Type 0} (h : B → Option L) (value : L) (lines : List L) (yielded : List B) (text : B) → lines ≡ filter_map h yielded → h text ≡ Some value → lines ++ value ∷ [] ≡ filter_map h (yielded ++ text ∷ [])
said_more h value lines yielded text so is = ap (λ xs. xs ++ value ∷ []) so ∙ sym (filter_map-append h yielded (text ∷ []) ∙ ap (λ o. filter_map h yielded ++ cons_option o []) is)

-- a line that says nothing
pub said_nothing : {B L : Type 0} (h : B → Option L) (lines : List L) (yielded : List B) (text : B) → lines ≡ filter_map h yielded → h text ≡ None → lines ≡ filter_map h (yielded ++ text ∷ [])
said_nothing h lines yielded text so is = so ∙ sym (filter_map-append h yielded (text ∷ []) ∙ ap (λ o. filter_map h yielded ++ cons_option o []) is ∙ append-nil (filter_map h yielded))

pub filter_map-map : {A B L : Type 0} (f : A → B) (h : B → Option L) (xs : List A) → filter_map (λ x. h (f x)) xs ≡ filter_map h (map f xs)
filter_map-map f h [] = refl
filter_map-map f h (x ∷ xs) = ap (cons_option (h (f x))) (filter_map-map f h xs)

-- what a loop over an iterator took, with the run of the loop first
pub drained : {S A B : Type 0} {steps : S → Option A → S → Type 0} {v : A → B} {s : S} {all : List B} (xs : List A) (t : S) (y : Yields steps s xs t) (r : Option A) (u : S) → r ≡ None → steps t r u → YieldsList steps v s all → map v xs ≡ all
drained xs t y r u none step e = (YieldsList-end e xs t y r u none step).0
