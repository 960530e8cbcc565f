-- Parts of a style sheet in which bytes change nothing, or are only put to the text of the part, up to one that ends them.
use Rattle.std.specs.Prelude.{ℕ, zero, suc, Bool, ◌||◌, not, List, [], ◌∷◌, if◌then◌else◌, ◌==◌}
use Rattle.css_links.specs.Bytes.{is_newline, is_white, is_name, is_unfit, is_loud}
use Rattle.css_links.specs.declared.span.Span.{Span}
use Rattle.css_links.specs.declared.span.Span.TheVariants.{Quiet, InSet, Plain, Name, Quoted, Unquoted, Bad}

-- what is before the first byte that stops
abbrev pub until : (ℕ → Bool) → List ℕ → List ℕ
until stops [] = []
until stops (b ∷ bs) = if stops b then [] else (b ∷ until stops bs)

-- what follows these bytes, from that byte on
abbrev pub from : (ℕ → Bool) → List ℕ → List ℕ
from stops [] = []
from stops (b ∷ bs) = if stops b then b ∷ bs else from stops bs

-- that byte
abbrev pub is : ℕ → ℕ → Bool
is byte b = b == byte

-- whether that byte ends the part
abbrev pub ends_span : Span → ℕ → Bool
ends_span Quiet b = is_loud b
ends_span InSet b = b == 41 || is_loud b
ends_span Plain b = is_name b || b == 35
ends_span Name b = not (is_name b)
ends_span (Quoted quote) b = b == quote || (is_newline b || b == 92)
ends_span Unquoted b = b == 41 || (is_white b || (b == 92 || is_unfit b))
ends_span Bad b = b == 41 || b == 92

-- the part that words and what is between them are, after so many open parentheses from that of an image set on
abbrev pub quiet_span : ℕ → Span
quiet_span zero = Quiet
quiet_span (suc depth) = InSet
