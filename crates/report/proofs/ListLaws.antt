-- Lists: where the elements of a mapped or a filtered list come from.
use Rattle.std.proofs.Common.{◌≡◌, ℕ, ◌<◌, ◌≤◌, ◌⊎◌, inl, inr, List, [], ◌∷◌, Option, Some, None, length, get_or, map, zero, suc, refl, sym, ap, ◌∙◌, subst, arith, ◌+◌, ◌++◌, take, append-nil}
use Rattle.std.specs.Prelude.{Contains, AllPairs}
use Rattle.std.specs.List.{filter_map, cons_option}
use Rattle.std.proofs.lemmas.List.{length-map, get_or-map, take_more}
use Rattle.std.proofs.lemmas.List.Elements.{Contains-get_or, filter_map-append}
use Rattle.std.proofs.lemmas.List.Kept.{AllPairs-cons}

pub contains_tail : {A : Type 0} (x y : A) (xs : List A) → Contains xs y → Contains (x ∷ xs) y
contains_tail x y xs (k, lt, e) = (suc k, omega arith, e)

pub contains_cases : {A : Type 0} (x y : A) (xs : List A) → Contains (x ∷ xs) y → (x ≡ y) ⊎ Contains xs y
contains_cases x y xs (zero, lt, e) = inl e
contains_cases x y xs (suc k, lt, e) = inr (k, omega arith, e)

-- ---- mapped

pub to_map : {X Y : Type 0} (f : X → Y) (xs : List X) (x : X) → Contains xs x → Contains (map f xs) (f x)
to_map f xs x (k, lt, e) = (k, omega (arith, length-map xs f), get_or-map f xs k x (f x) (omega arith) ∙ ap f e)

pub from_map : {X Y : Type 0} (f : X → Y) (xs : List X) (y : Y) → Contains (map f xs) y → (x : X) × Contains xs x × (f x ≡ y)
from_map f [] y (k, lt, e) = absurd (omega arith)
from_map f (x ∷ xs) y among =
    elim (contains_cases (f x) y (map f xs) among) [
      | inl is ↦ (x, (zero, omega arith, refl), is)
      | inr more ↦ (let (z, there, is) = from_map f xs y more in (z, contains_tail x z xs there, is))
    ]

pub pairs_map : {X Y : Type 0} (f : X → Y) (S : Y → Y → Type 0) (xs : List X) → AllPairs S (map f xs) → AllPairs (λ x y. S (f x) (f y)) xs
pairs_map f S xs pairs i j d lt lj =
    subst (λ z. S z (f (get_or xs j d))) (get_or-map f xs i d (f d) (omega arith))
    (subst (λ z. S (get_or (map f xs) i (f d)) z) (get_or-map f xs j d (f d) lj) (pairs i j (f d) lt (omega (arith, length-map xs f))))

-- ---- what is given of some

keep : {Y : Type 0} (o : Option Y) (ys : List Y) (y : Y) → Contains ys y → Contains (cons_option o ys) y
keep None ys y among = among
keep (Some z) ys y among = contains_tail z y ys among

pub to_given : {X Y : Type 0} (h : X → Option Y) (xs : List X) (x : X) (y : Y) → Contains xs x → h x ≡ Some y → Contains (filter_map h xs) y
to_given h [] x y (k, lt, e) is = absurd (omega arith)
to_given {X} {Y} h (z ∷ xs) x y among is =
    elim (contains_cases z x xs among) [
      | inl e ↦ subst (λ (o : Option Y). Contains (cons_option o (filter_map h xs)) y) (sym (ap h e ∙ is)) (zero, omega arith, refl)
      | inr more ↦ keep (h z) (filter_map h xs) y (to_given h xs x y more is)
    ]

pub from_given : {X Y : Type 0} (h : X → Option Y) (xs : List X) (y : Y) → Contains (filter_map h xs) y → (x : X) × Contains xs x × (h x ≡ Some y)
from_given h [] y (k, lt, e) = absurd (omega arith)
from_given {X} {Y} h (x ∷ xs) y among = go (from_given h xs y) (h x) refl among
  where
    go : (Contains (filter_map h xs) y → (z : X) × Contains xs z × (h z ≡ Some y)) → (o : Option Y) → h x ≡ o
        → Contains (cons_option o (filter_map h xs)) y → (z : X) × Contains (x ∷ xs) z × (h z ≡ Some y)
    go rest None e more = let (z, there, is) = rest more in (z, contains_tail x z xs there, is)
    go rest (Some w) e more =
        elim (contains_cases w y (filter_map h xs) more) [
          | inl is ↦ (x, (zero, omega arith, refl), e ∙ ap Some is)
          | inr later ↦ (let (z, there, is) = rest later in (z, contains_tail x z xs there, is))
        ]

pub pairs_given : {X Y : Type 0} (R : X → X → Type 0) (S : Y → Y → Type 0) (h : X → Option Y)
    → ((x w : X) (y v : Y) → R x w → h x ≡ Some y → h w ≡ Some v → S y v) → (xs : List X) → AllPairs R xs → AllPairs S (filter_map h xs)
pairs_given R S h keeps [] pairs = λ i j d lt lj. absurd (omega arith)
pairs_given {X} {Y} R S h keeps (x ∷ xs) pairs =
    go (h x) refl (pairs_given R S h keeps xs (λ i j d lt lj. pairs (suc i) (suc j) d (omega arith) (omega arith)))
  where
    go : (o : Option Y) → h x ≡ o → AllPairs S (filter_map h xs) → AllPairs S (cons_option o (filter_map h xs))
    go None e rest = rest
    go (Some y) e rest = AllPairs-cons S y (filter_map h xs) (λ k d lt.
        let (z, there, is) = from_given h xs (get_or (filter_map h xs) k d) (Contains-get_or (filter_map h xs) k d lt) in
        let (j, lj, at) = there in
        keeps x z y (get_or (filter_map h xs) k d) (subst (λ w. R x w) at (pairs zero (suc j) z (omega arith) (omega arith))) e is) rest

pub length-given : {X Y : Type 0} (h : X → Option Y) (xs : List X) → length (filter_map h xs) ≤ length xs
length-given h [] = omega arith
length-given {X} {Y} h (x ∷ xs) = go (length-given h xs) (h x)
  where
    go : length (filter_map h xs) ≤ length xs → (o : Option Y) → length (cons_option o (filter_map h xs)) ≤ length (x ∷ xs)
    go fewer None = omega arith
    go fewer (Some y) = omega arith

-- one more, of which nothing is given
pub given_none : {X Y : Type 0} (h : X → Option Y) (xs : List X) (i : ℕ) (d : X) → i < length xs → h (get_or xs i d) ≡ None → filter_map h (take (i + 1) xs) ≡ filter_map h (take i xs)
given_none h xs i d lt is = ap (filter_map h) (take_more xs i d lt) ∙ filter_map-append h (take i xs) (get_or xs i d ∷ []) ∙ rw is (append-nil _)

-- one more, of which this is given
pub given_some : {X Y : Type 0} (h : X → Option Y) (xs : List X) (i : ℕ) (d : X) (y : Y) → i < length xs → h (get_or xs i d) ≡ Some y
    → filter_map h (take (i + 1) xs) ≡ filter_map h (take i xs) ++ y ∷ []
given_some h xs i d y lt is = ap (filter_map h) (take_more xs i d lt) ∙ filter_map-append h (take i xs) (get_or xs i d ∷ []) ∙ rw is refl

-- what is given alike of each
pub given_alike : {X Y : Type 0} (h g : X → Option Y) (xs : List X) → ((x : X) → Contains xs x → h x ≡ g x) → filter_map h xs ≡ filter_map g xs
given_alike h g [] alike = refl
given_alike {X} {Y} h g (x ∷ xs) alike =
    ap (λ (o : Option Y). cons_option o (filter_map h xs)) (alike x (zero, omega arith, refl))
    ∙ ap (λ (ys : List Y). cons_option (g x) ys) (given_alike h g xs (λ y among. alike y (contains_tail x y xs among)))
