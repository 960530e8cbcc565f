-- Where the elements of a joined or a filtered list come from.
use Rattle.std.proofs.Common.{◌≡◌, ℕ, ◌+◌, ◌<◌, ◌⊎◌, inl, inr, List, [], ◌∷◌, ◌++◌, Bool, true, Option, Some, None, length, get_or, map, take, zero, suc, refl, sym, ap, ◌∙◌, subst, arith, append-nil}
use Rattle.std.specs.Prelude.{Contains, ◌↔◌}
use Rattle.std.specs.Cmp.{IsEquivalence}
use Rattle.std.specs.List.{dedup, filter_map, cons_option, flat_map}
use Rattle.std.specs.List.Sorted.{IsPermutation}
use Rattle.std.proofs.lemmas.List.Kept.{Any-dedup, Contains-from_dedup}
use Rattle.std.proofs.lemmas.List.Sorted.{Contains-permutation, IsPermutation-sym}
use Rattle.std.proofs.lemmas.List.{length-map, get_or-map, take_more}
use Rattle.std.proofs.lemmas.List.Elements.{filter_map-append, Contains-append_left, Contains-append_right, Contains-append_cases}

pub contains_tail : {A : Type 0} (x y : A) (xs : List A) → Contains xs y → Contains (x ∷ xs) y
contains_tail x y xs (k, lt, e) = (suc k, omega arith, e)

pub contains_cases : {A : Type 0} (x y : A) (xs : List A) → Contains (x ∷ xs) y → (x ≡ y) ⊎ Contains xs y
contains_cases x y xs (zero, lt, e) = inl e
contains_cases x y xs (suc k, lt, e) = inr (k, omega arith, e)

-- ---- mapped

pub to_map : {X Y : Type 0} (f : X → Y) (xs : List X) (x : X) → Contains xs x → Contains (map f xs) (f x)
to_map f xs x (k, lt, e) = (k, omega (arith, length-map xs f), get_or-map f xs k x (f x) (omega arith) ∙ ap f e)

pub from_map : {X Y : Type 0} (f : X → Y) (xs : List X) (y : Y) → Contains (map f xs) y → (x : X) × Contains xs x × (f x ≡ y)
from_map f [] y (k, lt, e) = absurd (omega arith)
from_map f (x ∷ xs) y among =
    elim (contains_cases (f x) y (map f xs) among) [
      | inl is ↦ (x, (zero, omega arith, refl), is)
      | inr more ↦ (let (z, there, is) = from_map f xs y more in (z, contains_tail x z xs there, is))
    ]

-- ---- what is given of some

keep : {Y : Type 0} (o : Option Y) (ys : List Y) (y : Y) → Contains ys y → Contains (cons_option o ys) y
keep None ys y among = among
keep (Some z) ys y among = contains_tail z y ys among

pub to_given : {X Y : Type 0} (h : X → Option Y) (xs : List X) (x : X) (y : Y) → Contains xs x → h x ≡ Some y → Contains (filter_map h xs) y
to_given h [] x y (k, lt, e) is = absurd (omega arith)
to_given {X} {Y} h (z ∷ xs) x y among is =
    elim (contains_cases z x xs among) [
      | inl e ↦ subst (λ (o : Option Y). Contains (cons_option o (filter_map h xs)) y) (sym (ap h e ∙ is)) (zero, omega arith, refl)
      | inr more ↦ keep (h z) (filter_map h xs) y (to_given h xs x y more is)
    ]

pub from_given : {X Y : Type 0} (h : X → Option Y) (xs : List X) (y : Y) → Contains (filter_map h xs) y → (x : X) × Contains xs x × (h x ≡ Some y)
from_given h [] y (k, lt, e) = absurd (omega arith)
from_given {X} {Y} h (x ∷ xs) y among = go (from_given h xs y) (h x) refl among
  where
    go : (Contains (filter_map h xs) y → (z : X) × Contains xs z × (h z ≡ Some y)) → (o : Option Y) → h x ≡ o
        → Contains (cons_option o (filter_map h xs)) y → (z : X) × Contains (x ∷ xs) z × (h z ≡ Some y)
    go rest None e more = let (z, there, is) = rest more in (z, contains_tail x z xs there, is)
    go rest (Some w) e more =
        elim (contains_cases w y (filter_map h xs) more) [
          | inl is ↦ (x, (zero, omega arith, refl), e ∙ ap Some is)
          | inr later ↦ (let (z, there, is) = rest later in (z, contains_tail x z xs there, is))
        ]

-- one more, of which nothing is given
pub given_none : {X Y : Type 0} (h : X → Option Y) (xs : List X) (i : ℕ) (d : X) → i < length xs → h (get_or xs i d) ≡ None → filter_map h (take (i + 1) xs) ≡ filter_map h (take i xs)
given_none h xs i d lt is = ap (filter_map h) (take_more xs i d lt) ∙ filter_map-append h (take i xs) (get_or xs i d ∷ []) ∙ rw is (append-nil _)

-- one more, of which this is given
pub given_some : {X Y : Type 0} (h : X → Option Y) (xs : List X) (i : ℕ) (d : X) (y : Y) → i < length xs → h (get_or xs i d) ≡ Some y
    → filter_map h (take (i + 1) xs) ≡ filter_map h (take i xs) ++ y ∷ []
given_some h xs i d y lt is = ap (filter_map h) (take_more xs i d lt) ∙ filter_map-append h (take i xs) (get_or xs i d ∷ []) ∙ rw is refl

-- ---- joined

pub to_joined : {X Y : Type 0} (f : X → List Y) (xs : List X) (x : X) (y : Y) → Contains xs x → Contains (f x) y → Contains (flat_map f xs) y
to_joined f [] x y (k, lt, e) among = absurd (omega arith)
to_joined f (z ∷ xs) x y there among =
    elim (contains_cases z x xs there) [
      | inl e ↦ Contains-append_left (f z) (flat_map f xs) y (subst (λ w. Contains (f w) y) (sym e) among)
      | inr more ↦ Contains-append_right (f z) (flat_map f xs) y (to_joined f xs x y more among)
    ]

pub from_joined : {X Y : Type 0} (f : X → List Y) (xs : List X) (y : Y) → Contains (flat_map f xs) y → (x : X) × Contains xs x × Contains (f x) y
from_joined f [] y (k, lt, e) = absurd (omega arith)
from_joined f (x ∷ xs) y among =
    elim (Contains-append_cases (f x) (flat_map f xs) y among) [
      | inl here ↦ (x, (zero, omega arith, refl), here)
      | inr more ↦ (let (z, there, is) = from_joined f xs y more in (z, contains_tail x z xs there, is))
    ]

-- ---- sorted, each once

-- what elements say stays if they are put in another order and each is kept once, if those that count as the same say the same
pub kept_once : {X Y : Type 0} (f : X → Y) {E : X → X → Bool} → IsEquivalence E → ((x z : X) → E x z ≡ true → f x ≡ f z) → (xs sorted kept : List X) → IsPermutation xs sorted → kept ≡ dedup E sorted
    → (y : Y) → Contains (map f kept) y ↔ Contains (map f xs) y
kept_once {X} {Y} f {E} equal same xs sorted kept moved is y = (there, back)
  where
    there : Contains (map f kept) y → Contains (map f xs) y
    there among =
        let (x, stays, says) = from_map f kept y among in
        let listed = Contains-permutation sorted xs x (IsPermutation-sym xs sorted moved) (Contains-from_dedup E sorted x (subst (λ (zs : List X). Contains zs x) is stays)) in
        subst (λ (z : Y). Contains (map f xs) z) says (to_map f xs x listed)

    back : Contains (map f xs) y → Contains (map f kept) y
    back among =
        let (x, listed, says) = from_map f xs y among in
        let (k, z, lt, at, alike) = Any-dedup equal sorted x (Contains-permutation xs sorted x moved listed) in
        subst (λ (v : Y). Contains (map f kept) v) (sym (same x z alike) ∙ says)
        (to_map f kept z (subst (λ (zs : List X). Contains zs z) (sym is) (k, lt, at)))
