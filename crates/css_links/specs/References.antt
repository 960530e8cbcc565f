-- The references of a style sheet, in its order.
use Rattle.std.specs.Prelude.{ℕ, ◌+◌, ◌-◌, Bool, false, List, [], ◌∷◌, ◌++◌, if◌then◌else◌, ◌==◌}
use Rattle.std.specs.Str.Lossy.{utf8_lossy}
use Rattle.css_links.specs.Escapes.{unescaped}
use Rattle.css_links.specs.Places.{turn}
use Rattle.css_links.specs.declared.place.Turn.{Turn}
use Rattle.css_links.specs.declared.place.Turn.TheVariants.{At, Anew, First, With, Refer, Quote, UrlQuote, Open, Close}
use Rattle.css_links.specs.declared.place.SheetPart.{SheetPart}
use Rattle.css_links.specs.declared.place.SheetPart.TheVariants.{Word, Reference, Other, Bare, Bad}
use Rattle.css_links.specs.declared.place.Place.{Place}
use Rattle.css_links.specs.declared.place.Place.TheVariants.{Between, Slash, Comment, CommentStar, Import, ImportSlash, ImportComment, ImportCommentStar, Inside, Escaped, UrlBegun, UrlEnded}

-- what was seen of a sheet: the references in it, and how many parentheses are open from that of an image set on
pub record Seen : Type 0 where
  pub found : List (List ℕ)
  pub depth : ℕ

-- the front of a sheet: where it ends, the text of the word, string or URL that it ends in, and what was seen of it
pub record Front : Type 0 where
  pub place : Place
  pub raw : List ℕ
  pub seen : Seen

-- that front
abbrev pub front : Place → List ℕ → Seen → Front
front p r s = record { place = p; raw = r; seen = s }

-- with these references more
abbrev pub noted : Seen → List (List ℕ) → Seen
noted s more = record { found = s.found ++ more; depth = s.depth }

-- The depth after a `(`, which may be that of an image set. Nothing is counted outside of image sets, and one within another, which
-- can't be, is any function.
abbrev pub opened : Bool → ℕ → ℕ
opened set depth = if depth == 0 then (if set then 1 else 0) else depth + 1

-- after such a `(`
abbrev pub within : Bool → Seen → Seen
within set s = record { found = s.found; depth = opened set s.depth }

-- after a `)`
abbrev pub without : Seen → Seen
without s = record { found = s.found; depth = s.depth - 1 }

-- a string between tokens: a reference directly in an image set (CSS Images Module Level 4, section 2.4)
abbrev pub string_at : ℕ → ℕ → SheetPart
string_at depth quote = if depth == 1 then Reference quote else Other quote

-- a reference that isn't empty
abbrev pub present : List ℕ → List (List ℕ)
present [] = []
present (b ∷ bs) = (b ∷ bs) ∷ []

-- the reference of a text as it is written: its escapes replaced, decoded as UTF-8; an empty one is none
abbrev pub reference : List ℕ → List (List ℕ)
reference raw = present (utf8_lossy (unescaped raw))

-- what a byte that does this makes of a front
abbrev pub turned : Front → ℕ → Turn → Front
turned s b (At p) = front p s.raw s.seen
turned s b (Anew p) = front p [] s.seen
turned s b (First p) = front p (b ∷ []) s.seen
turned s b (With p) = front p (s.raw ++ b ∷ []) s.seen
turned s b Refer = front Between [] (noted s.seen (reference s.raw))
turned s b (Quote quote) = front (Inside (string_at s.seen.depth quote)) [] s.seen
turned s b (UrlQuote quote) = front (Inside (Reference quote)) [] (within false s.seen)
turned s b (Open set) = front Between s.raw (within set s.seen)
turned s b Close = front Between s.raw (without s.seen)

-- the front with one more byte
abbrev pub step : Front → ℕ → Front
step s b = turned s b (turn s.place s.raw b)

-- the front of a sheet before its first byte
abbrev pub nothing_read : Front
nothing_read = front Between [] (record { found = []; depth = 0 })

-- a front with these bytes after it
abbrev pub fed : Front → List ℕ → Front
fed s [] = s
fed s (b ∷ bs) = fed (step s b) bs

-- what the end of the sheet leaves open: a string or URL that is a reference counts (sections 4.3.5 and 4.3.6)
abbrev pub left_open_in : SheetPart → List ℕ → List (List ℕ)
left_open_in (Word l) raw = []
left_open_in (Reference quote) raw = reference raw
left_open_in (Other quote) raw = []
left_open_in Bare raw = reference raw
left_open_in Bad raw = []

-- the reference that the end of the sheet ends
abbrev pub left_open : Place → List ℕ → List (List ℕ)
left_open Between raw = []
left_open Slash raw = []
left_open Comment raw = []
left_open CommentStar raw = []
left_open Import raw = []
left_open ImportSlash raw = []
left_open ImportComment raw = []
left_open ImportCommentStar raw = []
left_open (Inside part) raw = left_open_in part raw
left_open (Escaped part escape) raw = left_open_in part raw
left_open UrlBegun raw = []
left_open UrlEnded raw = reference raw

-- the references of a sheet of which this is all
abbrev pub ended : Front → List (List ℕ)
ended s = s.seen.found ++ left_open s.place s.raw

-- the references of a sheet
unfoldable pub references : List ℕ → List (List ℕ)
references sheet = ended (fed nothing_read sheet)
