-- What proofs alone need beside `PassesBody`.
use Rattle.std.specs.Prelude.{◌+◌, ◌⊎◌, ◌≡◌, ℕ, ◌≤◌, List, [], ◌++◌, length, Option}
use Rattle.std.specs.Io.KnownBytes.{Consumes, IsAtEnd}
use Rattle.response_reader.specs.declared.fault.ReadFault.{ReadFault}
use Rattle.response_reader.specs.declared.fault.ReadFault.TheVariants.{Device, Memory, Ended, BodyLong}
use Rattle.response_reader.specs.declared.fields.Framing.{Framing}
use Rattle.response_reader.specs.declared.fields.Framing.TheVariants.{UntilClose}
use Rattle.response_reader.specs.Limits.{Limited}
use Rattle.response_reader.specs.Bodies.{ReadsBody}
use Rattle.response_reader.specs.Response.{ReadsFront}

-- count bytes of what was ahead were handed on
pub record Passed (before after : Option (List ℕ)) (P : List ℕ → Type 0) (count : ℕ) : Type 0 where
  pub piece : List ℕ
  pub bytes : Consumes before after piece
  pub count_is : length piece ≡ count
  pub adds : P piece

-- count bytes were handed on in one step; none only at the end
pub record PassesBody (before after : Option (List ℕ)) (P : List ℕ → Type 0) (count : ℕ) : Type 0 where
  pub passed : Passed before after P count
  pub end : count ≡ 0 → IsAtEnd after

-- all was handed on, and it was at most so many bytes
pub record PassedAll (before after : Option (List ℕ)) (P : List ℕ → Type 0) (most : ℕ) : Type 0 where
  pub count : ℕ
  pub few : count ≤ most
  pub passed : Passed before after P count
  pub end : IsAtEnd after

-- of the bytes at most so many from the front were handed on
pub record PassedFront (P : List ℕ → Type 0) (most : ℕ) (bytes : List ℕ) : Type 0 where
  pub piece : List ℕ
  pub more : List ℕ
  pub text : bytes ≡ piece ++ more
  pub few : length piece ≤ most
  pub adds : P piece

-- a fault that the body of a known length may end in
abbrev pub IsBodyStop : ReadFault → Type 0
IsBodyStop f = (f ≡ Device) ⊎ (f ≡ Memory) ⊎ (f ≡ Ended)

-- a fault that a body until the end of the input may end in
abbrev pub IsOpenBodyStop : ReadFault → Type 0
IsOpenBodyStop f = (f ≡ Device) ⊎ (f ≡ Memory) ⊎ (f ≡ BodyLong)

-- after heads of used bytes the bytes begin with a body that is framed so, and it was handed on
pub record TakesBody (limits : Limited) (used : ℕ) (framing : Framing) (P : List ℕ → Type 0) (bytes : List ℕ) : Type 0 where
  pub body : List ℕ
  pub rest : List ℕ
  pub reads : ReadsBody framing bytes body rest
  pub few : length body ≤ limits.body
  pub len : used + length bytes ≤ length rest + limits.response
  pub adds : P body

-- after heads of used bytes a body that is framed so was used, all its bytes and none after it. What follows is free,
-- except for a body that ends with the input
pub record TookBody (limits : Limited) (before after : Option (List ℕ)) (used : ℕ) (framing : Framing) : Type 0 where
  pub body : List ℕ
  pub text : List ℕ
  pub bytes : Consumes before after text
  pub reads : (tail : List ℕ) → (framing ≡ UntilClose → tail ≡ []) → ReadsBody framing (text ++ tail) body tail
  pub few : length body ≤ limits.body
  pub len : used + length text ≤ limits.response

-- the bytes begin with a front of a body that is framed so, and it was handed on
abbrev pub TakesFront : Framing → (List ℕ → Type 0) → List ℕ → Type 0
TakesFront framing P bytes = (front : List ℕ) × ReadsFront framing bytes front × P front
