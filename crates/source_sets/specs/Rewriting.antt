-- A set with other URLs: what is outside of the URLs that change is as before, byte by byte.
use Rattle.std.specs.Prelude.{◌≡◌, ℕ, Bool, true, false, not, List, [], ◌∷◌, ◌++◌, Option, Some, None, ◌==◌}
use Rattle.std.specs.List.{list_all, flat_map}
use Rattle.std.specs.Str.Lossy.{utf8_lossy}
use Rattle.css_links.specs.Rewriting.{Change}
use Rattle.source_sets.specs.Sets.{Front, is_white, turn, reference, step, nothing_read, references}
use Rattle.source_sets.specs.declared.place.SetTurn.{SetTurn}
use Rattle.source_sets.specs.declared.place.SetTurn.TheVariants.{At, First, With, Comma, End}
use Rattle.source_sets.specs.declared.place.SetPlace.{SetPlace}
use Rattle.source_sets.specs.declared.place.SetPlace.TheVariants.{Before, Url, Commas, Descriptors, Parentheses}

-- whether the last byte is none of the commas that end a URL
abbrev pub ends_well : ℕ → List ℕ → Bool
ends_well b [] = not (b == 44)
ends_well b (c ∷ cs) = ends_well c cs

-- whether a byte isn't white
abbrev pub is_black : ℕ → Bool
is_black b = not (is_white b)

-- a text that can be a URL of a set: it has no white, and neither begins nor ends with a comma
pub record IsWritable (first : ℕ) (others : List ℕ) : Type 0 where
  pub begins : (first == 44) ≡ false
  pub ends : ends_well first others ≡ true
  pub black : is_white first ≡ false
  pub all_black : list_all is_black others ≡ true
  pub utf8 : utf8_lossy (first ∷ others) ≡ first ∷ others

-- the same of any text; an empty one can't
abbrev pub CanBeUrl : List ℕ → Type 0
CanBeUrl [] = ⊥
CanBeUrl (b ∷ bs) = IsWritable b bs

-- each text that a change makes of a URL can be one
abbrev pub IsWriting : Change → Type 0
IsWriting change = (text other : List ℕ) → change text ≡ Some other → CanBeUrl other

-- a URL as it is written, changed
abbrev pub written_or : List ℕ → Option (List ℕ) → List ℕ
written_or raw None = raw
written_or raw (Some other) = other

-- the same of the URL that it is
abbrev pub anew : Change → List ℕ → List ℕ
anew change raw = written_or raw (change (reference raw))

-- the front of a set, and what is written of it; a URL isn't written yet, nor are commas after it
pub record Rewrite : Type 0 where
  pub front : Front
  pub out : List ℕ

-- what is written when a byte does this
abbrev pub out_of : Change → Rewrite → ℕ → SetTurn → List ℕ
out_of change w b (At p) = w.out ++ b ∷ []
out_of change w b First = w.out
out_of change w b With = w.out
out_of change w b Comma = w.out
out_of change w b (End p) = w.out ++ (anew change w.front.raw ++ (w.front.commas ++ b ∷ []))

-- with one more byte
abbrev pub rewrite_step : Change → Rewrite → ℕ → Rewrite
rewrite_step change w b = record { front = step w.front b; out = out_of change w b (turn w.front.place b) }

-- before the first byte
abbrev pub nothing_written : Rewrite
nothing_written = record { front = nothing_read; out = [] }

-- with these bytes after it
abbrev pub rewrite_fed : Change → Rewrite → List ℕ → Rewrite
rewrite_fed change w [] = w
rewrite_fed change w (b ∷ bs) = rewrite_fed change (rewrite_step change w b) bs

-- what the end of the set adds: a URL that it ends
abbrev pub closed : Change → SetPlace → List ℕ → List ℕ → List ℕ
closed change Before raw commas = []
closed change Url raw commas = anew change raw ++ commas
closed change Commas raw commas = anew change raw ++ commas
closed change Descriptors raw commas = []
closed change Parentheses raw commas = []

-- all that is written of a set
abbrev pub rewrite_ended : Change → Rewrite → List ℕ
rewrite_ended change w = w.out ++ closed change w.front.place w.front.raw w.front.commas

-- the set with its URLs changed
unfoldable pub rewritten : Change → List ℕ → List ℕ
rewritten change set = rewrite_ended change (rewrite_fed change nothing_written set)

-- ---- what stays

-- a piece of a set: bytes, or a URL as it is written
pub data Piece : Type 0 where
  Bytes : List ℕ → Piece
  Value : List ℕ → Piece

-- its bytes
abbrev pub bytes_of : Piece → List ℕ
bytes_of (Bytes bytes) = bytes
bytes_of (Value raw) = raw

-- its URL
abbrev pub references_of : Piece → List (List ℕ)
references_of (Bytes bytes) = []
references_of (Value raw) = reference raw ∷ []

-- its bytes, with URLs changed and nothing else
abbrev pub bytes_anew : Change → Piece → List ℕ
bytes_anew change (Bytes bytes) = bytes
bytes_anew change (Value raw) = anew change raw

-- The set is these pieces, whose URLs are its URLs, and with these changed it is that other set: no byte outside of URLs is
-- another.
pub record IsAnew (change : Change) (set other : List ℕ) : Type 0 where
  pub pieces : List Piece
  pub set_bytes : set ≡ flat_map bytes_of pieces
  pub set_references : references set ≡ flat_map references_of pieces
  pub other_bytes : other ≡ flat_map (bytes_anew change) pieces
