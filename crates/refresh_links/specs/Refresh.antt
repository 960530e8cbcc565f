-- The URL of a refresh (HTML Standard, shared declarative refresh steps).
use Rattle.std.specs.Prelude.{ℕ, Bool, ◌||◌, List, [], ◌∷◌, ◌++◌, Option, Some, None, if◌then◌else◌, ◌==◌}
use Rattle.std.specs.Char.{is_ascii_digit}
use Rattle.std.specs.Str.Lossy.{utf8_lossy}
use Rattle.refresh_links.specs.declared.place.ContentTurn.{ContentTurn}
use Rattle.refresh_links.specs.declared.place.ContentTurn.TheVariants.{At, First, With, End}
use Rattle.refresh_links.specs.declared.place.ContentPlace.{ContentPlace}
use Rattle.refresh_links.specs.declared.place.ContentPlace.TheVariants.{Start, Time, Behind, Before, U, R, L, Equals, Url, Quoted, Done, Bad}

-- ASCII white
abbrev pub is_white : ℕ → Bool
is_white b = b == 9 || b == 10 || b == 12 || b == 13 || b == 32

-- `"` or `'`
abbrev pub is_quote : ℕ → Bool
is_quote b = b == 34 || b == 39

-- a digit or a dot
abbrev pub is_time : ℕ → Bool
is_time b = is_ascii_digit b || b == 46

-- `;` or `,`
abbrev pub separates : ℕ → Bool
separates b = b == 59 || b == 44

-- ---- what a byte does in its place

-- a time begins with a digit or a dot (steps 3 to 6)
abbrev pub start : ℕ → ContentTurn
start b = if is_white b then At Start else if is_time b then At Time else At Bad

-- digits and dots, and then white, `;` or `,` (steps 7 and 8)
abbrev pub time : ℕ → ContentTurn
time b = if is_time b then At Time else if is_white b then At Behind else if separates b then At Before else At Bad

-- a quote begins a URL after it, any other byte one with it
abbrev pub quote_or_url : ℕ → ContentTurn
quote_or_url b = if is_quote b then At (Quoted b) else First Url

-- where the URL begins: at a `u`, `url=` may come (step 11)
abbrev pub url_begins : ℕ → ContentTurn
url_begins b = if b == 117 || b == 85 then First U else quote_or_url b

-- white, and perhaps `;` or `,`, and again white (step 10)
abbrev pub behind : ℕ → ContentTurn
behind b = if is_white b then At Behind else if separates b then At Before else url_begins b

abbrev pub before : ℕ → ContentTurn
before b = if is_white b then At Before else url_begins b

-- after `u`, `ur`, `url` and white: if no `=` comes, all is the URL's own
abbrev pub u : ℕ → ContentTurn
u b = if b == 114 || b == 82 then With R else With Url

abbrev pub r : ℕ → ContentTurn
r b = if b == 108 || b == 76 then With L else With Url

abbrev pub l : ℕ → ContentTurn
l b = if is_white b then With L else if b == 61 then At Equals else With Url

-- after `url=`
abbrev pub equals : ℕ → ContentTurn
equals b = if is_white b then At Equals else quote_or_url b

-- in quotes
abbrev pub quoted : ℕ → ℕ → ContentTurn
quoted quote b = if b == quote then End else With (Quoted quote)

-- in any place
abbrev pub turn : ContentPlace → ℕ → ContentTurn
turn Start b = start b
turn Time b = time b
turn Behind b = behind b
turn Before b = before b
turn U b = u b
turn R b = r b
turn L b = l b
turn Equals b = equals b
turn Url b = With Url
turn (Quoted quote) b = quoted quote b
turn Done b = At Done
turn Bad b = At Bad

-- ---- the URL

-- the front of a content: where it ends, and what may be the URL
pub record Front : Type 0 where
  pub place : ContentPlace
  pub raw : List ℕ
  pub found : Option (List ℕ)

-- that front
abbrev pub front : ContentPlace → List ℕ → Option (List ℕ) → Front
front p r f = record { place = p; raw = r; found = f }

-- the URL of a text, decoded as UTF-8
abbrev pub reference : List ℕ → List ℕ
reference raw = utf8_lossy raw

-- what a byte that does this makes of a front
abbrev pub turned : Front → ℕ → ContentTurn → Front
turned s b (At p) = front p [] s.found
turned s b (First p) = front p (b ∷ []) s.found
turned s b (With p) = front p (s.raw ++ b ∷ []) s.found
turned s b End = front Done [] (Some (reference s.raw))

-- the front with one more byte
abbrev pub step : Front → ℕ → Front
step s b = turned s b (turn s.place b)

-- before the first byte
abbrev pub nothing_read : Front
nothing_read = front Start [] None

-- a front with these bytes after it
abbrev pub fed : Front → List ℕ → Front
fed s [] = s
fed s (b ∷ bs) = fed (step s b) bs

-- the URL that the end of the content ends; a content without one is none
abbrev pub ended_in : ContentPlace → List ℕ → Option (List ℕ) → Option (List ℕ)
ended_in Start raw found = None
ended_in Time raw found = None
ended_in Behind raw found = None
ended_in Before raw found = None
ended_in U raw found = Some (reference raw)
ended_in R raw found = Some (reference raw)
ended_in L raw found = Some (reference raw)
ended_in Equals raw found = None
ended_in Url raw found = Some (reference raw)
ended_in (Quoted quote) raw found = Some (reference raw)
ended_in Done raw found = found
ended_in Bad raw found = None

-- the URL of a content of which this is all
abbrev pub ended : Front → Option (List ℕ)
ended s = ended_in s.place s.raw s.found

-- the URL of a content
unfoldable pub reference_of : List ℕ → Option (List ℕ)
reference_of content = ended (fed nothing_read content)
