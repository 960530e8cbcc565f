-- Fronts and backs of texts.
use Rattle.std.specs.Prelude.{◌≡◌, ℕ, List, ◌++◌}

-- the text begins with the front
abbrev pub BeginsWith : List ℕ → List ℕ → Type 0
BeginsWith text front = (rest : List ℕ) × (text ≡ front ++ rest)

-- the text ends in the back
abbrev pub EndsIn : List ℕ → List ℕ → Type 0
EndsIn text back = (front : List ℕ) × (text ≡ front ++ back)
