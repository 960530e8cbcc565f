-- The order of addresses, and of origins: that of their texts, by bytes.
use Rattle.std.specs.Prelude.{◌≡◌, ℕ, true, List, AllPairs}
use Rattle.std.specs.Cmp.Lexicographic.{slice_cmp}
use Rattle.std.specs.Ordering.{nat_cmp, is_lt}

-- one text is before the other
abbrev pub IsBefore : List ℕ → List ℕ → Type 0
IsBefore text other = is_lt (slice_cmp nat_cmp text other) ≡ true

-- each text is before every later one, so that none occurs twice
abbrev pub IsAscending : List (List ℕ) → Type 0
IsAscending texts = AllPairs IsBefore texts
