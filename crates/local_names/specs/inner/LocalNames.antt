-- What proofs alone need beside `LocalNames`.
use Rattle.std.specs.Prelude.{ℕ, Bool, ◌||◌, List, [], codes, bytes_eq}

-- the same as a test: it names nothing within its directory
abbrev pub is_outer : List ℕ → Bool
is_outer segment = bytes_eq segment [] || bytes_eq segment (codes ".") || bytes_eq segment (codes "..")
