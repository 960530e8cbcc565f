-- Any bytes as an entry, or as a field of one: a zero, a line feed, a space and a backslash are written as two bytes.
use Rattle.std.specs.Prelude.{◌≢◌, ℕ, List, [], ◌∷◌, ◌++◌, if◌then◌else◌, ◌==◌}

-- one byte
abbrev pub written : ℕ → List ℕ
written x = if x == 0 then 92 ∷ 48 ∷ [] else (if x == 10 then 92 ∷ 110 ∷ [] else (if x == 92 then 92 ∷ 92 ∷ [] else (if x == 32 then 92 ∷ 115 ∷ [] else x ∷ [])))

abbrev pub escaped : List ℕ → List ℕ
escaped [] = []
escaped (x ∷ xs) = written x ++ escaped xs

-- what a byte after a backslash means
abbrev pub meant : ℕ → ℕ
meant c = if c == 48 then 0 else (if c == 110 then 10 else (if c == 115 then 32 else c))

-- what was written
abbrev pub read_back : List ℕ → List ℕ
read_back [] = []
read_back (x ∷ []) = x ∷ []
read_back (x ∷ c ∷ xs) = if x == 92 then meant c ∷ read_back xs else x ∷ read_back (c ∷ xs)

-- no space
abbrev pub HasNoSpace : List ℕ → Type 0
HasNoSpace [] = Unit {0}
HasNoSpace (x ∷ xs) = (x ≢ 32) × HasNoSpace xs
