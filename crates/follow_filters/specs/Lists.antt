-- Lists of elements, as they are written (GNU Wget manual, chapter Following Links).
use Rattle.std.specs.Prelude.{ℕ, Bool, not, ◌==◌, List, [], ◌∷◌, filter, length, Option, Some, option_map, option_and_then}
use Rattle.std.specs.List.{slice_split}

-- a comma
abbrev pub is_comma : ℕ → Bool
is_comma byte = byte == 44

-- the elements of a list: they are between commas, and empty ones don't count
abbrev pub elements_in : List ℕ → List (List ℕ)
elements_in list = filter (λ e. not (length e == 0)) (slice_split is_comma list)

-- what the elements read as, none if one is bad
abbrev pub read_all : {X : Type 0} → (List ℕ → Option X) → List (List ℕ) → Option (List X)
read_all read [] = Some []
read_all read (e ∷ elements) = option_and_then (λ x. option_map (λ xs. x ∷ xs) (read_all read elements)) (read e)

-- what a list reads as, none if an element is bad
unfoldable pub read_list : {X : Type 0} → (List ℕ → Option X) → List ℕ → Option (List X)
read_list read list = read_all read (elements_in list)
