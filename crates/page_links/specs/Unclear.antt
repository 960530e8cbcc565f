-- Texts of which it isn't known that they are what is written.
use Rattle.std.specs.Prelude.{ℕ, Bool, true, false, ◌==◌, ◌&&◌, ◌||◌, List, [], ◌∷◌, if◌then◌else◌}
use Rattle.std.specs.Char.{is_ascii_alphanumeric, is_ascii_digit}

-- a letter or digit is there, or came before, then perhaps others, and `;`
abbrev pub ends_name : Bool → List ℕ → Bool
ends_name some [] = false
ends_name some (b ∷ bs) = if is_ascii_alphanumeric b then ends_name true bs else (some && b == 59)

-- a number begins, decimal or hexadecimal
abbrev pub begins_number : List ℕ → Bool
begins_number [] = false
begins_number (b ∷ bs) = is_ascii_digit b || b == 120 || b == 88

-- after an `&` it goes on as a character reference does, by a number or by a name
abbrev pub is_reference : List ℕ → Bool
is_reference [] = false
is_reference (b ∷ bs) = if b == 35 then begins_number bs else ends_name false (b ∷ bs)

-- a character reference is in it, which wasn't understood
abbrev pub has_reference : List ℕ → Bool
has_reference [] = false
has_reference (b ∷ bs) = if b == 38 && is_reference bs then true else has_reference bs

-- U+FFFD begins with that byte
abbrev pub is_replacement : ℕ → List ℕ → Bool
is_replacement b [] = false
is_replacement b (c ∷ []) = false
is_replacement b (c ∷ d ∷ others) = b == 0xEF && c == 0xBF && d == 0xBD

-- U+FFFD is in it, as for bytes that aren't UTF-8
abbrev pub has_replacement : List ℕ → Bool
has_replacement [] = false
has_replacement (b ∷ bs) = if is_replacement b bs then true else has_replacement bs

-- what is written isn't known to be this text
abbrev pub is_unclear : List ℕ → Bool
is_unclear text = has_reference text || has_replacement text
