-- Units as the code has them, and names to which segments are added.
use Rattle.std.specs.Prelude.{ℕ, Bool, not, List, [], ◌∷◌, ◌++◌, if◌then◌else◌}
use Rattle.std.specs.Char.{encode_utf8}
use Rattle.std.specs.List.{list_all}
use denote.Ref.{Bor}
use Rattle.percent_encoding.specs.Percent.{percent_encode_byte}
use Rattle.local_names.specs.declared.unit.Unit.{Unit}
use Rattle.local_names.specs.declared.unit.Unit.TheVariants.{Char, Escape}
use Rattle.local_names.specs.PlainNames.{slash, is_dot, has_bytes, segment_within, Segment}

-- the bytes of a unit
abbrev pub unit_text : Unit → List ℕ
unit_text (Char c) = encode_utf8 c
unit_text (Escape byte) = percent_encode_byte byte

-- the unit is a dot
abbrev pub is_dot_unit : Unit → Bool
is_dot_unit unit = list_all is_dot (unit_text unit)

-- the bytes that are lent
abbrev pub lent_bytes : Bor (List ℕ) → List ℕ
lent_bytes bytes = bytes.now

-- a name to which a segment is to be added: with a slash, if it has others
abbrev pub started : List ℕ → List ℕ
started name = if has_bytes name then (name ++ slash ∷ []) else []

-- no segment was added to the name
abbrev pub is_new : List ℕ → Bool
is_new name = not (has_bytes name)

-- the name with one segment more
abbrev pub below : List ℕ → Segment → List ℕ
below name segment = started name ++ segment (is_new name)

-- the same with one of these units, which has no more bytes than this
abbrev pub below_within : ℕ → List ℕ → List (List ℕ) → List ℕ
below_within room name units = below name (λ is_first. segment_within is_first room units)

-- the name with these segments more
abbrev pub all_below : List ℕ → List Segment → List ℕ
all_below name [] = name
all_below name (segment ∷ others) = all_below (below name segment) others
