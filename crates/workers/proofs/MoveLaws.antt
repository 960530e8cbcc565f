-- What is moved piece by piece from the front of one list to the end of another.
use Rattle.std.proofs.Common.{◌≡◌, ◌≤◌, ◌<◌, ◌+◌, ℕ, suc, List, [], ◌∷◌, ◌++◌, length, get_or, map, drop, drop-cons, add-one, refl, ap, sym, ◌∙◌, append_assoc, append-nil, length-append, inl, inr, subst, arith}
use Rattle.std.specs.List.{flat_map}
use Rattle.std.proofs.lemmas.Bool.{cases_lt}
use Rattle.std.proofs.lemmas.List.{length-drop, map-append, get_or_append_left, get_or-append-add}
use Rattle.std.proofs.lemmas.Grind.{flat_map-append}
use Rattle.workers.specs.declared.worker.Seat.{Seat}
use Rattle.workers.specs.inner.Seats.{AreNumbered}

-- with the next piece moved, what was moved and what is left are still the whole
pub piece_moved : {X : Type 0} (done piece rest left new all : List X) → left ≡ piece ++ rest → new ≡ done ++ piece → done ++ left ≡ all → new ++ rest ≡ all
piece_moved {X = X} done piece rest left new all cut is whole =
    ap (λ (xs : List X). xs ++ rest) is ∙ append_assoc done piece rest ∙ ap (λ (xs : List X). done ++ xs) (sym cut) ∙ whole

-- if there is room for the whole, there is for the next piece
pub piece_fits : {X : Type 0} (done piece rest left all : List X) (room : ℕ) → left ≡ piece ++ rest → done ++ left ≡ all → length all ≤ room → length done + length piece ≤ room
piece_fits done piece rest left all room cut whole within =
    omega (arith, within, ap length whole, ap length cut, length-append done left, length-append piece rest)

-- if nothing is left, the whole was moved
pub all_moved : {X : Type 0} (done left all : List X) → left ≡ [] → done ++ left ≡ all → done ≡ all
all_moved {X = X} done left all none whole = sym (append-nil done) ∙ ap (λ (xs : List X). done ++ xs) (sym none) ∙ whole

-- a list of which nothing is left to count has no element
pub none_left : {X : Type 0} (left : List X) → length left ≡ 0 → left ≡ []
none_left [] none = refl
none_left (x ∷ left) none = absurd (omega arith)

-- with the next list counted, what was counted and what is left to count are still the whole
pub piece_counted : {X Y : Type 0} (xs : List X) (i : ℕ) (x : X) (f : X → List Y) (done piece new all : ℕ) → i < length xs → x ≡ get_or xs i x → piece ≡ length (f x) → new ≡ done + piece
    → done + length (flat_map f (drop i xs)) ≡ all → new + length (flat_map f (drop (i + 1) xs)) ≡ all
piece_counted {X = X} xs i x f done piece new all within here long is whole =
    let cut : drop i xs ≡ x ∷ drop (i + 1) xs = rw add-one (drop-cons xs i x within ∙ ap (λ (y : X). y ∷ drop (suc i) xs) (sym here)) in
    omega (arith, whole, is, long, ap (λ (ys : List X). length (flat_map f ys)) cut, length-append (f x) (flat_map f (drop (i + 1) xs)))

-- at the end, what was counted is the whole
pub all_counted : {X Y : Type 0} (xs : List X) (i : ℕ) (f : X → List Y) (done all : ℕ) → length xs ≤ i → done + length (flat_map f (drop i xs)) ≡ all → done ≡ all
all_counted {X = X} xs i f done all end whole =
    let none : drop i xs ≡ [] = none_left (drop i xs) (omega (arith, end, length-drop i xs)) in
    omega (arith, whole, ap (λ (ys : List X). length (flat_map f ys)) none)

-- if nothing is listed, and the next one adds nothing, nothing is listed
pub none_added : {X Y : Type 0} (xs new : List X) (x : X) (f : X → List Y) → new ≡ xs ++ x ∷ [] → f x ≡ [] → flat_map f xs ≡ [] → flat_map f new ≡ []
none_added xs new x f is empty none = rw (is, flat_map-append f xs (x ∷ []), none, empty) refl

-- the next one's part is after the others'
pub one_added : {X Y : Type 0} (xs new : List X) (x : X) (f : X → Y) → new ≡ xs ++ x ∷ [] → map f new ≡ map f xs ++ f x ∷ []
one_added xs new x f is = rw is (map-append f xs (x ∷ []))

-- one seat more is numbered by its place
pub numbered_more : {F B : Type 0} (seats new : List (Seat F B)) (seat : Seat F B) → new ≡ seats ++ seat ∷ [] → seat.number ≡ length seats → AreNumbered seats → AreNumbered new
numbered_more {F = F} {B = B} seats new seat is here numbers = subst (λ (xs : List (Seat F B)). AreNumbered xs) (sym is) all
  where
    all : AreNumbered (seats ++ seat ∷ [])
    all k d lt = elim (cases_lt k (length seats)) [
      | inl below ↦ ap (λ (s : Seat F B). s.number) (get_or_append_left seats (seat ∷ []) d k below) ∙ numbers k d below
      | inr least ↦ (
          let last : k ≡ length seats + 0 = omega (arith, lt, least, length-append seats (seat ∷ [])) in
          rw last (ap (λ (s : Seat F B). s.number) (get_or-append-add seats (seat ∷ []) 0 d) ∙ (here ∙ omega arith))
          )
    ]
