-- Classes of bytes in a pattern, such as `[a-c]` (GNU Wget manual, section Types of Files).
use Rattle.std.specs.Prelude.{ℕ, Bool, true, false, not, ◌&&◌, ◌||◌, ◌==◌, nat_le, nat_lt, List, [], ◌∷◌, Option, Some, None, option_map, if◌then◌else◌}
use Rattle.std.specs.Char.{to_ascii_lowercase, to_ascii_uppercase}
use Rattle.std.specs.List.{list_any}
use Rattle.follow_filters.specs.declared.class.Range.{Range}
use Rattle.follow_filters.specs.ClassValues.{ClassValue}

-- the byte lies in the range
abbrev pub is_in : ℕ → Range → Bool
is_in byte range = nat_le range.low byte && nat_le byte range.high

-- a range of the class names the byte
abbrev pub class_names : ClassValue → ℕ → Bool
class_names class byte = list_any (λ range. is_in byte range) class.ranges

-- a class takes what its ranges name, or if it is negated what none names
abbrev pub class_takes : ClassValue → ℕ → Bool
class_takes class byte = if class.is_negated then not (class_names class byte) else class_names class byte

-- a range of the class names the byte in lower or in upper case
abbrev pub class_names_letter : ClassValue → ℕ → Bool
class_names_letter class byte = class_names class (to_ascii_lowercase byte) || class_names class (to_ascii_uppercase byte)

-- what a class takes if the case of letters doesn't count
abbrev pub class_takes_any_case : ClassValue → ℕ → Bool
class_takes_any_case class byte = if class.is_negated then not (class_names_letter class byte) else class_names_letter class byte

-- ---- how a class is written

-- the bytes from one to another
abbrev pub range : ℕ → ℕ → Range
range low high = record { low = low; high = high }

-- a range and the ranges after it, none if those are bad or its first byte is above its last
abbrev pub then_range : Range → Option (List Range) → Option (List Range)
then_range first others = if nat_lt first.high first.low then None else option_map (λ ranges. first ∷ ranges) others

-- the ranges that the items spell: `x-y` is the bytes from x to y, and any other byte is itself
abbrev pub ranges_of : List ℕ → Option (List Range)
ranges_of [] = Some []
ranges_of (x ∷ []) = then_range (range x x) (Some [])
ranges_of (x ∷ dash ∷ []) = then_range (range x x) (ranges_of (dash ∷ []))
ranges_of (x ∷ dash ∷ y ∷ items) =
    if dash == 45 then then_range (range x y) (ranges_of items)
    else then_range (range x x) (ranges_of (dash ∷ y ∷ items))

-- a class of these ranges, unless there are none
abbrev pub class_with : Bool → Option (List Range) → Option ClassValue
class_with is_negated None = None
class_with is_negated (Some []) = None
class_with is_negated (Some (first ∷ others)) = Some (record { is_negated = is_negated; ranges = first ∷ others })

-- the class whose brackets are around these bytes: a `!` if one comes first, and items
abbrev pub bracketed_class : List ℕ → Option ClassValue
bracketed_class [] = None
bracketed_class (first ∷ inner) =
    if first == 33 then class_with true (ranges_of inner)
    else class_with false (ranges_of (first ∷ inner))
