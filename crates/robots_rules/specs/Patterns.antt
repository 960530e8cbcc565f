-- The patterns of rules, with `*` and `$` (RFC 9309, sections 2.2.2 and 2.2.3).
use Rattle.std.specs.Prelude.{ℕ, ◌-◌, Bool, ◌==◌, List, [], ◌∷◌, ◌++◌, length, take, slice_index, if◌then◌else◌}
use Rattle.robots_rules.specs.Octets.{normal_pattern}

-- the last octet is `$`, which means the end of the text
abbrev pub ends_text : List ℕ → Bool
ends_text pattern = slice_index pattern (length pattern - 1) == 36

-- without the last octet
abbrev pub front : List ℕ → List ℕ
front pattern = take (length pattern - 1) pattern

-- a pattern in normal form: its last `$` stays, every other `$` is an octet of a path and so `%24`
abbrev pub normal_of : List ℕ → List ℕ
normal_of pattern = if ends_text pattern then normal_pattern (front pattern) ++ 36 ∷ [] else normal_pattern pattern

-- `*` matches any run of octets
abbrev pub is_run : ℕ → Bool
is_run part = part == 42

-- every other octet matches itself
abbrev pub takes : ℕ → ℕ → Bool
takes wanted octet = octet == wanted

-- the parts that match a whole text, an octet each: a pattern without a last `$` matches what begins the text, so any run may follow
abbrev pub matching_parts : List ℕ → List ℕ
matching_parts pattern = if ends_text pattern then front pattern else pattern ++ 42 ∷ []
