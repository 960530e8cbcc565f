-- What proofs alone need beside `Response`.
use Rattle.std.specs.Prelude.{ℕ, List}
use Rattle.response_reader.specs.Limits.{Limited}
use Rattle.response_reader.specs.Response.{ResponseParts, IsResponse}

-- no response within these limits begins the bytes
abbrev pub BeginsNone : Limited → List ℕ → Type 0
BeginsNone limits bytes = (r : ResponseParts) (rest : List ℕ) → IsResponse limits bytes r rest → ⊥
