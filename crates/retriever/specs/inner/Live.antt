-- What proofs alone need beside `Live`.
use Rattle.std.specs.Prelude.{◌⊎◌, ℕ, List, ◌++◌, codes}
use Rattle.retriever.specs.Found.{torn_line}

-- a report's text is written after a put that failed: with the line of it, or there is no memory for that
abbrev pub IsTornWritten : (List ℕ → ℕ → Type 0) → List ℕ → ℕ → Type 0
IsTornWritten IsWritten text whole = IsWritten (text ++ torn_line whole) 3 ⊎ IsWritten (codes "stopped memory\n") 1
