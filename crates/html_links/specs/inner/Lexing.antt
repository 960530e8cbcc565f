-- What proofs alone need beside `Lexing`.
use Rattle.std.specs.Prelude.{◌≡◌, ℕ, Bool, true, List, [], ◌∷◌, ◌++◌}
use Rattle.html_links.specs.Pieces.{Attribute, Source}
use Rattle.html_links.specs.Pieces.Source.{FromTag, FromSheet}
use Rattle.html_links.specs.declared.lexer.Lexer.{Lexer}
use Rattle.html_links.specs.declared.lexer.Ended.{Ended}
use Rattle.html_links.specs.declared.lexer.Ended.TheVariants as ends
use Rattle.html_links.specs.Contexts.{Context}
use Rattle.css_links.specs.References.{Front, ended}
use Rattle.html_links.specs.Lexing.{kept_with, in_raw_end, remaining}

-- a lexer after an attribute of that value
pub record HasRead (old : Lexer) (value : List ℕ) (new : Lexer) : Type 0 where
  pub context : new.context ≡ old.context
  pub opens : new.opens ≡ old.opens
  pub wanted : new.wanted ≡ old.wanted
  pub raw : new.raw ≡ old.raw
  pub styled : new.styled ≡ old.styled
  pub name : new.name.items ≡ old.name.items
  pub attributes : new.attributes.items ≡ kept_with old value

-- what a step ended: nothing, the tag of that name and those attributes, or the style sheet of those references
abbrev pub source_if : Ended → List ℕ → List Attribute → List (List ℕ) → List Source
source_if ends.Nothing name attributes shown = []
source_if ends.Tag name attributes shown = FromTag (record { name = name; attributes = attributes }) ∷ []
source_if ends.Sheet name attributes shown = FromSheet shown ∷ []

-- the start tag or style sheet that a step ended
abbrev pub tag_ended : Ended → Lexer → List Source
tag_ended e l = source_if e l.name.items l.attributes.items l.shown.items

-- A step over a byte: what results from the byte and the rest is the tag or style sheet that it ended and what results from the rest.
abbrev pub GivesTag : (List ℕ → List Source) → ℕ → Ended → Lexer → Type 0
GivesTag before byte ends new = (rest : List ℕ) → before (byte ∷ rest) ≡ tag_ended ends new ++ remaining new rest

-- A run over the front of a text that ends no tag: what results from the text and the rest is what results from what is left of it and the rest.
abbrev pub LeavesTag : (List ℕ → List Source) → List ℕ → List ℕ → Lexer → Type 0
LeavesTag before text left new = (rest : List ℕ) → before (text ++ rest) ≡ remaining new (left ++ rest)

-- before the byte that ends the name of the end tag of a style sheet of which this front has come
abbrev pub sheet_and_end : Context → Front → List ℕ → List Source
sheet_and_end k s rest = FromSheet (ended s) ∷ in_raw_end k rest

-- what the end of the body may end, if a style sheet is read or none
abbrev pub EndsOnly : Bool → Ended → Type 0
EndsOnly styled ends.Nothing = Unit {0}
EndsOnly styled ends.Tag = ⊥
EndsOnly styled ends.Sheet = styled ≡ true
