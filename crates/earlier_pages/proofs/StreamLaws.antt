-- What a read of a recorded response gives of what is left.
use Rattle.std.proofs.Common.{◌≡◌, ◌+◌, ◌-◌, ◌<◌, ◌++◌, ℕ, Bool, true, false, List, [], ◌∷◌, Option, Some, None, append_assoc, length, length-append, take, drop, min, refl, subst, arith}
use Rattle.std.specs.Bool.{◌==◌}
use Rattle.std.specs.Io.KnownBytes.{Consumes, prepend_known}
use Rattle.std.proofs.Math.Seq.{take-append_seam}
use Rattle.std.proofs.lemmas.Bool.Decides.{nat_tests}
use Rattle.std.proofs.lemmas.List.{drop-drop, length-drop, take_rest, take-append-drop}

empty_is : (xs : List ℕ) → length xs ≡ 0 → xs ≡ []
empty_is [] none = refl
empty_is (x ∷ xs) none = absurd (omega (arith, none))

zero_of : (n : ℕ) (empty : Bool) → empty ≡ (n == 0) → empty ≡ true → n ≡ 0
zero_of n empty is holds = grind (arith, nat_tests)

-- nothing is left of a head
pub none_left : (shown head : List ℕ) (given : ℕ) (empty : Bool) → shown ≡ head → empty ≡ (length (take (length shown - given) (drop given shown)) == 0) → empty ≡ true → drop given head ≡ []
none_left shown head given empty same is holds =
    subst (λ l. drop given l ≡ []) same (empty_is (drop given shown) (subst (λ l. length l ≡ 0) (take_rest shown given) (zero_of _ empty is holds)))

-- nothing before what is known
pub prepend_none : (rest : List ℕ) (known : Option (List ℕ)) → rest ≡ [] → prepend_known rest known ≡ known
prepend_none rest None none = refl
prepend_none rest (Some xs) none = rw none refl

-- what is copied of a head is the front of what is left
pub copied_is : (shown head copied : List ℕ) (given count : ℕ) → shown ≡ head → copied ≡ take count (take (length shown - given) (drop given shown)) → copied ≡ take count (drop given head)
copied_is shown head copied given count same is =
    subst (λ l. copied ≡ take count (drop given l)) same (subst (λ l. copied ≡ take count l) (take_rest shown given) is)

-- the first bytes of a head were given, and those after them are left
pub front_given : (head : List ℕ) (given count : ℕ) (copied after : List ℕ) (known : Option (List ℕ)) → copied ≡ take count (drop given head) → length copied ≡ count
    → Consumes (prepend_known (drop given head) known) (prepend_known (drop (given + count) head) known) (take count (copied ++ after))
front_given head given count copied after None is long = tt
front_given head given count copied after (Some xs) is long =
    let all : take count (drop given head) ++ drop count (drop given head) ≡ drop given head = take-append-drop count (drop given head) in
    let front : take count (copied ++ after) ≡ take count (drop given head) = subst (λ l. take count (copied ++ after) ≡ l) is (subst (λ n. take n (copied ++ after) ≡ copied) long (take-append_seam copied after)) in
    let rest : drop count (drop given head) ≡ drop (given + count) head = drop-drop count given head in
    rw (front, ← rest, ← append_assoc, all) refl

-- some bytes are given if some are left and there is room
pub some_given : (count rest : ℕ) (copied buf : List ℕ) (empty : Bool) → empty ≡ (rest == 0) → empty ≡ false → count ≡ min rest (length buf) → length copied ≡ count
    → count ≡ 0 → 0 < length (copied ++ drop count buf) → ⊥
some_given count rest copied buf empty is fails least long none room =
    let total : length (copied ++ drop count buf) ≡ length copied + (length buf - count) = simp (length-append, length-drop) refl in
    grind (arith, nat_tests)
