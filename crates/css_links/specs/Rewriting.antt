-- A sheet with other references: what is outside of the references that change is as before, byte by byte.
use Rattle.std.specs.Prelude.{◌≡◌, ◌≢◌, ℕ, ◌<◌, List, [], ◌∷◌, ◌++◌, Option, Some, None, All, codes, if◌then◌else◌, ◌==◌}
use Rattle.std.specs.List.{flat_map}
use Rattle.std.specs.Str.Lossy.{utf8_lossy}
use Rattle.css_links.specs.Places.{turn}
use Rattle.css_links.specs.References.{Front, reference, step, nothing_read, references}
use Rattle.css_links.specs.declared.place.Turn.{Turn}
use Rattle.css_links.specs.declared.place.Turn.TheVariants.{At, Anew, First, With, Refer, Quote, UrlQuote, Open, Close}
use Rattle.css_links.specs.declared.place.SheetPart.{SheetPart}
use Rattle.css_links.specs.declared.place.SheetPart.TheVariants.{Word, Reference, Other, Bare, Bad}
use Rattle.css_links.specs.declared.zone.Zone.{Zone}
use Rattle.css_links.specs.declared.zone.Zone.TheVariants.{Outside, Begun, Quoted, Unquoted, Ended}
use Rattle.css_links.specs.declared.place.Place.{Place}
use Rattle.css_links.specs.declared.place.Place.TheVariants.{Between, Slash, Comment, CommentStar, Import, ImportSlash, ImportComment, ImportCommentStar, Inside, Escaped, UrlBegun, UrlEnded}

-- ---- texts as references

-- a byte as it is written in a string or bare URL: what could end either is escaped by its number
abbrev pub written_byte : ℕ → List ℕ
written_byte b =
    if b == 34 then codes "\\22 "
    else if b == 39 then codes "\\27 "
    else if b == 40 then codes "\\28 "
    else if b == 41 then codes "\\29 "
    else if b == 92 then codes "\\5c "
    else if b == 60 then codes "\\3c "
    else b ∷ []

-- a text as it is written in a string or bare URL
abbrev pub written : List ℕ → List ℕ
written text = flat_map written_byte text

-- a byte of a text that can be written: visible
abbrev pub IsWritableByte : ℕ → Type 0
IsWritableByte b = (32 < b) × (b ≢ 127)

-- a text that can be a reference
pub record IsWritable (text : List ℕ) : Type 0 where
  pub present : text ≢ []
  pub bytes : All IsWritableByte text
  pub utf8 : utf8_lossy text ≡ text

-- what references become: another text, or nothing if they stay
abbrev pub Change : Type 0
Change = List ℕ → Option (List ℕ)

-- each text that it makes of a reference can be one
abbrev pub IsWriting : Change → Type 0
IsWriting change = (text other : List ℕ) → change text ≡ Some other → IsWritable other

-- the text that is changed, or that text
abbrev pub or_same : Option (List ℕ) → List ℕ → List ℕ
or_same None text = text
or_same (Some other) text = other

-- what a reference becomes
abbrev pub changed : Change → List ℕ → List ℕ
changed change text = or_same (change text) text

-- ---- the sheet anew

-- a reference as it is written, changed
abbrev pub written_or : List ℕ → Option (List ℕ) → List ℕ
written_or raw None = raw
written_or raw (Some other) = written other

-- the same of the text of which it is the reference, if that isn't empty
abbrev pub anew_of : Change → List ℕ → List (List ℕ) → List ℕ
anew_of change raw [] = raw
anew_of change raw (text ∷ others) = written_or raw (change text)

-- a text as it is written, changed if it is a reference
abbrev pub anew : Change → List ℕ → List ℕ
anew change raw = anew_of change raw (reference raw)

-- what a part is in, as far as a rewriter cares
abbrev pub part_zone : SheetPart → Zone
part_zone (Word l) = Outside
part_zone (Reference quote) = Quoted quote
part_zone (Other quote) = Outside
part_zone Bare = Unquoted
part_zone Bad = Outside

-- what a place is in
abbrev pub zone : Place → Zone
zone Between = Outside
zone Slash = Outside
zone Comment = Outside
zone CommentStar = Outside
zone Import = Outside
zone ImportSlash = Outside
zone ImportComment = Outside
zone ImportCommentStar = Outside
zone (Inside part) = part_zone part
zone (Escaped part escape) = part_zone part
zone UrlBegun = Begun
zone UrlEnded = Ended

-- the front of a sheet, what is written of it, and the white after a bare URL; what may be a reference isn't written yet
pub record Rewrite : Type 0 where
  pub front : Front
  pub out : List ℕ
  pub white : List ℕ

-- what is held back in a zone, of that text and white
abbrev pub held_in : Zone → List ℕ → List ℕ → List ℕ
held_in Outside raw white = []
held_in Begun raw white = []
held_in (Quoted quote) raw white = raw
held_in Unquoted raw white = raw
held_in Ended raw white = raw ++ white

-- what is held back
abbrev pub held : Rewrite → List ℕ
held w = held_in (zone w.front.place) w.front.raw w.white

-- the white that is held back after a bare URL
abbrev pub white_in : Zone → List ℕ → List ℕ
white_in Outside white = []
white_in Begun white = []
white_in (Quoted quote) white = []
white_in Unquoted white = []
white_in Ended white = white

-- what is written when a byte leads to a place in that zone: nothing if it is white after a bare URL
abbrev pub out_at : Zone → List ℕ → List ℕ → ℕ → List ℕ
out_at Outside out held b = out ++ (held ++ b ∷ [])
out_at Begun out held b = out ++ (held ++ b ∷ [])
out_at (Quoted quote) out held b = out ++ (held ++ b ∷ [])
out_at Unquoted out held b = out ++ (held ++ b ∷ [])
out_at Ended out held b = out

-- the white that is held back when a byte leads to a place in that zone from one in this
abbrev pub white_at : Zone → Zone → List ℕ → ℕ → List ℕ
white_at Outside from white b = white
white_at Begun from white b = white
white_at (Quoted quote) from white b = white
white_at Unquoted from white b = white
white_at Ended from white b = white_in from white ++ b ∷ []

-- what is written when the text goes on with a byte in that zone: nothing if it may be a reference
abbrev pub out_with : Zone → List ℕ → ℕ → List ℕ
out_with Outside out b = out ++ b ∷ []
out_with Begun out b = out ++ b ∷ []
out_with (Quoted quote) out b = out
out_with Unquoted out b = out
out_with Ended out b = out ++ b ∷ []

-- what is written when a byte does this
abbrev pub out_of : Change → Rewrite → ℕ → Turn → List ℕ
out_of change w b (At p) = out_at (zone p) w.out (held w) b
out_of change w b (Anew p) = w.out ++ b ∷ []
out_of change w b (First p) = w.out ++ b ∷ []
out_of change w b (With p) = out_with (zone p) w.out b
out_of change w b Refer = w.out ++ (anew change w.front.raw ++ (white_in (zone w.front.place) w.white ++ b ∷ []))
out_of change w b (Quote quote) = w.out ++ b ∷ []
out_of change w b (UrlQuote quote) = w.out ++ b ∷ []
out_of change w b (Open set) = w.out ++ b ∷ []
out_of change w b Close = w.out ++ b ∷ []

-- the white that is held back when a byte does this
abbrev pub white_of : Rewrite → ℕ → Turn → List ℕ
white_of w b (At p) = white_at (zone p) (zone w.front.place) w.white b
white_of w b (Anew p) = w.white
white_of w b (First p) = w.white
white_of w b (With p) = w.white
white_of w b Refer = w.white
white_of w b (Quote quote) = w.white
white_of w b (UrlQuote quote) = w.white
white_of w b (Open set) = w.white
white_of w b Close = w.white

-- with one more byte
abbrev pub rewrite_step : Change → Rewrite → ℕ → Rewrite
rewrite_step change w b = record {
  front = step w.front b;
  out = out_of change w b (turn w.front.place w.front.raw b);
  white = white_of w b (turn w.front.place w.front.raw b);
}

-- before the first byte
abbrev pub nothing_written : Rewrite
nothing_written = record { front = nothing_read; out = []; white = [] }

-- with these bytes after it
abbrev pub rewrite_fed : Change → Rewrite → List ℕ → Rewrite
rewrite_fed change w [] = w
rewrite_fed change w (b ∷ bs) = rewrite_fed change (rewrite_step change w b) bs

-- what the end of the sheet adds in a zone: a string or bare URL that it ends is a reference
abbrev pub closed_in : Change → Zone → List ℕ → List ℕ → List ℕ
closed_in change Outside raw white = []
closed_in change Begun raw white = []
closed_in change (Quoted quote) raw white = anew change raw
closed_in change Unquoted raw white = anew change raw
closed_in change Ended raw white = anew change raw ++ white

-- all that is written of a sheet
abbrev pub rewrite_ended : Change → Rewrite → List ℕ
rewrite_ended change w = w.out ++ closed_in change (zone w.front.place) w.front.raw w.white

-- the sheet with its references changed
unfoldable pub rewritten : Change → List ℕ → List ℕ
rewritten change sheet = rewrite_ended change (rewrite_fed change nothing_written sheet)

-- ---- what stays

-- a piece of a sheet: bytes, or the text of a reference as it is written
pub data Piece : Type 0 where
  Bytes : List ℕ → Piece
  Value : List ℕ → Piece

-- its bytes
abbrev pub bytes_of : Piece → List ℕ
bytes_of (Bytes bytes) = bytes
bytes_of (Value raw) = raw

-- its reference
abbrev pub references_of : Piece → List (List ℕ)
references_of (Bytes bytes) = []
references_of (Value raw) = reference raw

-- its bytes, with references changed and nothing else
abbrev pub bytes_anew : Change → Piece → List ℕ
bytes_anew change (Bytes bytes) = bytes
bytes_anew change (Value raw) = anew change raw

-- The sheet is these pieces, whose references are its references, and with these changed it is that other sheet: no byte
-- outside of references is another.
pub record IsAnew (change : Change) (sheet other : List ℕ) : Type 0 where
  pub pieces : List Piece
  pub sheet_bytes : sheet ≡ flat_map bytes_of pieces
  pub sheet_references : references sheet ≡ flat_map references_of pieces
  pub other_bytes : other ≡ flat_map (bytes_anew change) pieces
