-- The parts of a list that is split.
use Rattle.std.proofs.Common.{◌≡◌, ℕ, Bool, true, false, List, [], ◌∷◌, length, cond, refl, ap}
use Rattle.std.specs.List.{slice_split, onto_first, position_or_len}
use Rattle.std.proofs.lemmas.List.Splits.{slice_split_none}
use Rattle.std.proofs.lemmas.List.Elements.{All-from_get_or}
use Rattle.std.proofs.lemmas.List.Sums.{fails_before_first}

-- a list of which no element passes is one part
pub slice_split-whole : (p : ℕ → Bool) (xs : List ℕ) → position_or_len p xs ≡ length xs → slice_split p xs ≡ xs ∷ []
slice_split-whole p xs h = slice_split_none p xs (All-from_get_or (λ x. p x ≡ false) xs 0 (λ i l. fails_before_first p xs i 0 (rw h l)))

first_of : {X : Type 0} (b : Bool) (x : X) (all : List (List X)) (part : List X) (parts : List (List X)) → all ≡ part ∷ parts
    → (first : List X) × (others : List (List X)) × (cond b ([] ∷ all) (onto_first x all) ≡ first ∷ others)
first_of true x all part parts e = ([], all, refl)
first_of false x all part parts e = (x ∷ part, parts, ap (onto_first x) e)

-- there is a first part
pub slice_split-first_part : {X : Type 0} (p : X → Bool) (xs : List X) → (part : List X) × (parts : List (List X)) × (slice_split p xs ≡ part ∷ parts)
slice_split-first_part p [] = ([], [], refl)
slice_split-first_part p (x ∷ xs) = let (part, parts, e) = slice_split-first_part p xs in first_of (p x) x (slice_split p xs) part parts e
