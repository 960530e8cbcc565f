-- What is found in rows and forms.
use Rattle.std.proofs.Common.{◌≡◌, ◌∙◌, ◌++◌, ◌||◌, ◌+◌, ◌<◌, ◌≤◌, ℕ, Bool, true, false, Bor, List, [], ◌∷◌, Some, None, drop, get_or, if◌then◌else◌, length, map, refl, ap}
use Rattle.std.specs.List.{flat_map, list_any}
use Rattle.std.proofs.Math.ListN.{drop_of_length-le}
use Rattle.std.proofs.lemmas.List.{drop_more}
use Rattle.options.specs.declared.table.Instead.{Instead}
use Rattle.options.specs.declared.table.Row.{Row}
use Rattle.options.specs.Hints.{advice_in, first_near, foreign_text, form_hint, is_form_of, is_near, is_own, long_hint}
use Rattle.options.specs.Meant.{long_name, meant}
use Rattle.options.specs.Table.{wget}
use Rattle.options.specs.inner.Table.{instead_in, row_in}

pub flat_map-map : {X : Type 0} (f : List ℕ → List ℕ) (now : X → List ℕ) (xs : List X) → flat_map (λ x. f (now x)) xs ≡ flat_map f (map now xs)
flat_map-map f now [] = refl
flat_map-map f now (x ∷ xs) = ap (λ rest. f (now x) ++ rest) (flat_map-map f now xs)

-- the element at a place of a list, and what is after it
ahead : {X : Type 0} {Y : Type 0} (f : X → Y) (xs : List X) (i : ℕ) (d : X) → i < length xs → map f (drop i xs) ≡ f (get_or xs i d) ∷ map f (drop (i + 1) xs)
ahead f xs i d below = ap (map f) (drop_more xs i d below)

-- ---- the first option that is near

pub first_near-here : (most : ℕ) (name : List ℕ) (rows : List (Row (Bor (List ℕ)))) (i : ℕ) (d : Row (Bor (List ℕ))) → i < length rows → is_near most name (row_in (get_or rows i d)) ≡ true
    → first_near most name (map row_in (drop i rows)) ≡ Some (row_in (get_or rows i d)).name
first_near-here most name rows i d below near =
    ap (first_near most name) (ahead row_in rows i d below)
    ∙ ap (λ b. if b then Some (row_in (get_or rows i d)).name else first_near most name (map row_in (drop (i + 1) rows))) near

pub first_near-later : (most : ℕ) (name : List ℕ) (rows : List (Row (Bor (List ℕ)))) (i : ℕ) (d : Row (Bor (List ℕ))) → i < length rows → is_near most name (row_in (get_or rows i d)) ≡ false
    → first_near most name (map row_in (drop i rows)) ≡ first_near most name (map row_in (drop (i + 1) rows))
first_near-later most name rows i d below far =
    ap (first_near most name) (ahead row_in rows i d below)
    ∙ ap (λ b. if b then Some (row_in (get_or rows i d)).name else first_near most name (map row_in (drop (i + 1) rows))) far

pub first_near-end : (most : ℕ) (name : List ℕ) (rows : List (Row (Bor (List ℕ)))) (i : ℕ) → length rows ≤ i → first_near most name (map row_in (drop i rows)) ≡ None
first_near-end most name rows i past = ap (λ left. first_near most name (map row_in left)) (drop_of_length-le rows past)

-- ---- what to do in place of an option

pub advice_in-here : (form : List ℕ) (rows : List (Instead (Bor (List ℕ)))) (i : ℕ) (d : Instead (Bor (List ℕ))) → i < length rows → is_form_of form (instead_in (get_or rows i d)).form ≡ true
    → advice_in form (map instead_in (drop i rows)) ≡ Some (instead_in (get_or rows i d)).advice
advice_in-here form rows i d below has =
    ap (advice_in form) (ahead instead_in rows i d below)
    ∙ ap (λ b. if b then Some (instead_in (get_or rows i d)).advice else advice_in form (map instead_in (drop (i + 1) rows))) has

pub advice_in-later : (form : List ℕ) (rows : List (Instead (Bor (List ℕ)))) (i : ℕ) (d : Instead (Bor (List ℕ))) → i < length rows → is_form_of form (instead_in (get_or rows i d)).form ≡ false
    → advice_in form (map instead_in (drop i rows)) ≡ advice_in form (map instead_in (drop (i + 1) rows))
advice_in-later form rows i d below other =
    ap (advice_in form) (ahead instead_in rows i d below)
    ∙ ap (λ b. if b then Some (instead_in (get_or rows i d)).advice else advice_in form (map instead_in (drop (i + 1) rows))) other

pub advice_in-end : (form : List ℕ) (rows : List (Instead (Bor (List ℕ)))) (i : ℕ) → length rows ≤ i → advice_in form (map instead_in (drop i rows)) ≡ None
advice_in-end form rows i past = ap (λ left. advice_in form (map instead_in left)) (drop_of_length-le rows past)

-- ---- any of a list

pub any-map : {X : Type 0} {Y : Type 0} (f : X → Y) (p : Y → Bool) (xs : List X) → list_any p (map f xs) ≡ list_any (λ x. p (f x)) xs
any-map f p [] = refl
any-map f p (x ∷ xs) = ap (λ b. p (f x) || b) (any-map f p xs)

-- ---- what is said of a form

pub form_hint-own : (form : List ℕ) → is_own (meant form) ≡ true → form_hint form ≡ []
unfolding form_hint
form_hint-own form own = rw own refl

pub form_hint-foreign : (form : List ℕ) → is_own (meant form) ≡ false → list_any (is_form_of (meant form)) wget ≡ true → form_hint form ≡ foreign_text form (meant form)
unfolding form_hint
form_hint-foreign form other foreign = rw (other, foreign) refl

pub form_hint-long : (form : List ℕ) → is_own (meant form) ≡ false → list_any (is_form_of (meant form)) wget ≡ false → form_hint form ≡ long_hint form (long_name form)
unfolding form_hint
form_hint-long form other own = rw (other, own) refl
