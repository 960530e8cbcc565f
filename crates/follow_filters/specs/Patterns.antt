-- Patterns of file names, and what they match (GNU Wget manual, section Types of Files).
use Rattle.std.specs.Prelude.{◌≡◌, zero, suc, ℕ, Bool, true, false, ◌==◌, List, [], ◌∷◌, map, take, drop, ◌+◌, length, Option, Some, None, option_map, if◌then◌else◌}
use Rattle.std.specs.Char.{to_ascii_lowercase}
use Rattle.std.specs.Option.{option_and_then}
use Rattle.std.specs.List.{list_any, position}
use Rattle.part_match.specs.Cuts.{Matches, is_match}
use Rattle.follow_filters.specs.declared.pattern.PatternPart.{PatternPart}
use Rattle.follow_filters.specs.declared.pattern.PatternPart.TheVariants as part
use Rattle.follow_filters.specs.Wildcards.{is_wildcard}
use Rattle.follow_filters.specs.Classes.{class_takes, class_takes_any_case, bracketed_class}

-- the part matches any run of bytes
abbrev pub is_run : PatternPart → Bool
is_run part.Run = true
is_run _ = false

-- the part matches the one byte
unfoldable pub takes : PatternPart → ℕ → Bool
takes part.Run byte = false
takes part.Any byte = true
takes (part.Byte wanted) byte = byte == wanted
takes (part.Class class) byte = class_takes class byte

-- the part matches the one byte, and the case of letters doesn't count
unfoldable pub takes_any_case : PatternPart → ℕ → Bool
takes_any_case part.Run byte = false
takes_any_case part.Any byte = true
takes_any_case (part.Byte wanted) byte = to_ascii_lowercase byte == to_ascii_lowercase wanted
takes_any_case (part.Class class) byte = class_takes_any_case class byte

-- the part matches the one byte, if the case of letters is ignored or not
abbrev pub takes_in : Bool → PatternPart → ℕ → Bool
takes_in ignores_case part byte = if ignores_case then takes_any_case part byte else takes part byte

-- ---- how a pattern is written

-- a byte outside of a class: `*` is any run, `?` any byte, and any other byte is itself
abbrev pub unit_of : ℕ → PatternPart
unit_of byte = if byte == 42 then part.Run else (if byte == 63 then part.Any else part.Byte byte)

-- the byte ends a class
abbrev pub is_end : ℕ → Bool
is_end byte = byte == 93

-- the class whose `]` is at this place of the text, and what follows it; none if the class is bad or has no `]`
abbrev pub class_to : List ℕ → Option ℕ → Option (PatternPart × List ℕ)
class_to text None = None
class_to text (Some end) = option_map (λ class. (part.Class class, drop (end + 1) text)) (bracketed_class (take end text))

-- the part that a byte and the text after it begin with, and what follows that part: a `[` begins a class, which goes
-- to the next `]`
abbrev pub first_part : ℕ → List ℕ → Option (PatternPart × List ℕ)
first_part byte text = if byte == 91 then class_to text (position is_end text) else Some (unit_of byte, text)

-- the parts that a text of at most so many bytes spells: its first part and those after it
abbrev pub parts_within : ℕ → List ℕ → Option (List PatternPart)
parts_within zero text = Some []
parts_within (suc most) [] = Some []
parts_within (suc most) (byte ∷ text) =
    option_and_then (λ split. option_map (λ parts. split.0 ∷ parts) (parts_within most split.1)) (first_part byte text)

-- the parts that a text spells, none if it is bad
unfoldable pub parts_spelled : List ℕ → Option (List PatternPart)
parts_spelled text = parts_within (length text) text

-- the parts of an element: those that it spells, or if none of its bytes is a wildcard, any run and its bytes
unfoldable pub read_pattern : List ℕ → Option (List PatternPart)
read_pattern element =
    if list_any is_wildcard element then parts_spelled element
    else Some (part.Run ∷ map (λ b. part.Byte b) element)

-- the text, if it is an element: then contracts see the pattern as it
abbrev pub read_element : List ℕ → Option (List ℕ)
read_element element = option_map (λ parts. element) (read_pattern element)

-- ---- what a pattern matches; of all it is asked first whether the case of letters is ignored

-- the text can be cut into pieces that the pattern's parts match one by one
abbrev pub MatchesFile : Bool → List ℕ → List ℕ → Type 0
MatchesFile ignores_case element file = (parts : List PatternPart) × (read_pattern element ≡ Some parts) × Matches is_run (takes_in ignores_case) parts file

-- the same of the parts that were read, as a test
abbrev pub matches_read : Bool → Option (List PatternPart) → List ℕ → Bool
matches_read ignores_case None file = false
matches_read ignores_case (Some parts) file = is_match is_run (takes_in ignores_case) parts file

-- the element matches the file name, as a test
unfoldable pub is_file_match : Bool → List ℕ → List ℕ → Bool
is_file_match ignores_case element file = matches_read ignores_case (read_pattern element) file
