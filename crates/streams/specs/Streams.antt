-- What a reader gives and a writer holds.
use Rattle.std.specs.Prelude.{◌≡◌, ℕ, List, ◌++◌, Option, IfSome}
use Rattle.std.specs.Io.KnownBytes.{Appends}
use Rattle.streams.specs.declared.pieces.Piece.{Piece}
use Rattle.streams.specs.declared.pieces.Piece.TheVariants.{Made, Lent}

-- the bytes are all that a reader has left, if they are known
abbrev pub IsInput : Option (List ℕ) → List ℕ → Type 0
IsInput known input = IfSome known (λ bytes. bytes ≡ input)

-- a writer whose bytes are known has gained a front of the text
pub record AppendsFront (old new : Option (List ℕ)) (text : List ℕ) : Type 0 where
  pub front : List ℕ
  pub rest : List ℕ
  pub parts : text ≡ front ++ rest
  pub appended : Appends old new front

-- the bytes of a piece
abbrev pub piece_text : Piece → List ℕ
piece_text (Made bytes) = bytes.items
piece_text (Lent bytes) = bytes.now
