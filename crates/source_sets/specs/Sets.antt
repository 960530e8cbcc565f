-- The URLs of a source set, in its order (HTML Standard, section 4.8.4.3.10: parsing a srcset attribute).
use Rattle.std.specs.Prelude.{ℕ, Bool, ◌||◌, List, [], ◌∷◌, ◌++◌, if◌then◌else◌, ◌==◌}
use Rattle.std.specs.Str.Lossy.{utf8_lossy}
use Rattle.source_sets.specs.declared.place.SetTurn.{SetTurn}
use Rattle.source_sets.specs.declared.place.SetTurn.TheVariants.{At, First, With, Comma, End}
use Rattle.source_sets.specs.declared.place.SetPlace.{SetPlace}
use Rattle.source_sets.specs.declared.place.SetPlace.TheVariants.{Before, Url, Commas, Descriptors, Parentheses}

-- ASCII white: tab, line feed, form feed, carriage return, space
abbrev pub is_white : ℕ → Bool
is_white b = b == 9 || b == 10 || b == 12 || b == 13 || b == 32

-- ---- what a byte does in its place

-- before a candidate: white and commas are passed over
abbrev pub before : ℕ → SetTurn
before b = if is_white b || b == 44 then At Before else First

-- in a URL: white ends it, and descriptors follow; a comma may end it
abbrev pub url : ℕ → SetTurn
url b = if is_white b then End Descriptors else if b == 44 then Comma else With

-- after commas: white ends the URL before them, and no descriptor follows; else they are the URL's own
abbrev pub commas : ℕ → SetTurn
commas b = if is_white b then End Before else if b == 44 then Comma else With

-- in descriptors: a comma ends them, but not one in parentheses
abbrev pub descriptors : ℕ → SetTurn
descriptors b = if b == 44 then At Before else if b == 40 then At Parentheses else At Descriptors

abbrev pub parentheses : ℕ → SetTurn
parentheses b = if b == 41 then At Descriptors else At Parentheses

-- in any place
abbrev pub turn : SetPlace → ℕ → SetTurn
turn Before b = before b
turn Url b = url b
turn Commas b = commas b
turn Descriptors b = descriptors b
turn Parentheses b = parentheses b

-- ---- the URLs

-- the front of a set: where it ends, the URL that it ends in, the commas after that, and the URLs before it
pub record Front : Type 0 where
  pub place : SetPlace
  pub raw : List ℕ
  pub commas : List ℕ
  pub found : List (List ℕ)

-- that front
abbrev pub front : SetPlace → List ℕ → List ℕ → List (List ℕ) → Front
front p r c f = record { place = p; raw = r; commas = c; found = f }

-- the URL of a text, decoded as UTF-8
abbrev pub reference : List ℕ → List ℕ
reference raw = utf8_lossy raw

-- what a byte that does this makes of a front
abbrev pub turned : Front → ℕ → SetTurn → Front
turned s b (At p) = front p [] [] s.found
turned s b First = front Url (b ∷ []) [] s.found
turned s b With = front Url (s.raw ++ (s.commas ++ b ∷ [])) [] s.found
turned s b Comma = front Commas s.raw (s.commas ++ b ∷ []) s.found
turned s b (End p) = front p [] [] (s.found ++ reference s.raw ∷ [])

-- the front with one more byte
abbrev pub step : Front → ℕ → Front
step s b = turned s b (turn s.place b)

-- the front of a set before its first byte
abbrev pub nothing_read : Front
nothing_read = front Before [] [] []

-- a front with these bytes after it
abbrev pub fed : Front → List ℕ → Front
fed s [] = s
fed s (b ∷ bs) = fed (step s b) bs

-- the URL that the end of the set ends
abbrev pub left_open : SetPlace → List ℕ → List (List ℕ)
left_open Before raw = []
left_open Url raw = reference raw ∷ []
left_open Commas raw = reference raw ∷ []
left_open Descriptors raw = []
left_open Parentheses raw = []

-- the URLs of a set of which this is all
abbrev pub ended : Front → List (List ℕ)
ended s = s.found ++ left_open s.place s.raw

-- the URLs of a set
unfoldable pub references : List ℕ → List (List ℕ)
references set = ended (fed nothing_read set)
