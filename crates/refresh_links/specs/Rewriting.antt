-- A content with another URL: what is outside of the URL is as before, byte by byte.
use Rattle.std.specs.Prelude.{◌≡◌, ◌⊎◌, ℕ, Bool, false, true, not, ◌||◌, List, [], ◌∷◌, ◌++◌, Option, Some, None, ◌==◌}
use Rattle.std.specs.List.{list_all}
use Rattle.std.specs.Str.Lossy.{utf8_lossy}
use Rattle.css_links.specs.Rewriting.{Change}
use Rattle.refresh_links.specs.Refresh.{Front, is_white, is_quote, separates, turn, reference, step, nothing_read}
use Rattle.refresh_links.specs.declared.place.ContentTurn.{ContentTurn}
use Rattle.refresh_links.specs.declared.place.ContentTurn.TheVariants.{At, First, With, End}
use Rattle.refresh_links.specs.declared.place.ContentPlace.{ContentPlace}
use Rattle.refresh_links.specs.declared.place.ContentPlace.TheVariants.{Start, Time, Behind, Before, U, R, L, Equals, Url, Quoted, Done, Bad}

-- whether a byte is no quote, and no `=`
abbrev pub is_unquoted : ℕ → Bool
is_unquoted b = not (is_quote b)

abbrev pub is_unequal : ℕ → Bool
is_unequal b = not (b == 61)

-- A text that can be a URL here: it has no quotes, begins neither with white nor with `;` or `,`, and if it begins with `u` it
-- has no `=`.
pub record IsWritable (first : ℕ) (others : List ℕ) : Type 0 where
  pub unquoted : list_all is_unquoted (first ∷ others) ≡ true
  pub black : is_white first ≡ false
  pub own : separates first ≡ false
  pub unequal : ((first == 117 || first == 85) ≡ false) ⊎ (list_all is_unequal others ≡ true)
  pub utf8 : utf8_lossy (first ∷ others) ≡ first ∷ others

-- the same of any text; an empty one can't
abbrev pub CanBeUrl : List ℕ → Type 0
CanBeUrl [] = ⊥
CanBeUrl (b ∷ bs) = IsWritable b bs

-- each text that a change makes of a URL can be one
abbrev pub IsWriting : Change → Type 0
IsWriting change = (text other : List ℕ) → change text ≡ Some other → CanBeUrl other

-- a URL as it is written, changed
abbrev pub written_or : List ℕ → Option (List ℕ) → List ℕ
written_or raw None = raw
written_or raw (Some other) = other

-- the same of the URL that it is
abbrev pub anew : Change → List ℕ → List ℕ
anew change raw = written_or raw (change (reference raw))

-- the front of a content, and what is written of it; what may be the URL isn't written yet
pub record Rewrite : Type 0 where
  pub front : Front
  pub out : List ℕ

-- what is written when a byte does this
abbrev pub out_of : Change → Rewrite → ℕ → ContentTurn → List ℕ
out_of change w b (At p) = w.out ++ (w.front.raw ++ b ∷ [])
out_of change w b (First p) = w.out
out_of change w b (With p) = w.out
out_of change w b End = w.out ++ (anew change w.front.raw ++ b ∷ [])

-- with one more byte
abbrev pub rewrite_step : Change → Rewrite → ℕ → Rewrite
rewrite_step change w b = record { front = step w.front b; out = out_of change w b (turn w.front.place b) }

-- before the first byte
abbrev pub nothing_written : Rewrite
nothing_written = record { front = nothing_read; out = [] }

-- with these bytes after it
abbrev pub rewrite_fed : Change → Rewrite → List ℕ → Rewrite
rewrite_fed change w [] = w
rewrite_fed change w (b ∷ bs) = rewrite_fed change (rewrite_step change w b) bs

-- what the end of the content adds: a URL that it ends
abbrev pub closed : Change → ContentPlace → List ℕ → List ℕ
closed change Start raw = []
closed change Time raw = []
closed change Behind raw = []
closed change Before raw = []
closed change U raw = anew change raw
closed change R raw = anew change raw
closed change L raw = anew change raw
closed change Equals raw = []
closed change Url raw = anew change raw
closed change (Quoted quote) raw = anew change raw
closed change Done raw = []
closed change Bad raw = []

-- all that is written of a content
abbrev pub rewrite_ended : Change → Rewrite → List ℕ
rewrite_ended change w = w.out ++ closed change w.front.place w.front.raw

-- the content with its URL changed
unfoldable pub rewritten : Change → List ℕ → List ℕ
rewritten change content = rewrite_ended change (rewrite_fed change nothing_written content)
