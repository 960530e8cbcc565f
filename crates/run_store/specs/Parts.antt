-- Bodies that are being written.
use Rattle.std.specs.Prelude.{ℕ, List, Option, Some}

-- the part is open and has these bytes so far
pub record IsBegun {D : Type 0} (opened : D → List ℕ → Type 0) (seen : D → List ℕ → Option (List ℕ) → Type 0) (disk : D) (part bytes : List ℕ) : Type 0 where
  pub is_opened : opened disk part
  pub stands : seen disk part (Some bytes)
