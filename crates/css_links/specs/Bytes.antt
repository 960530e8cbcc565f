-- Classes of bytes (CSS Syntax Level 3, section 4.2). A byte above 127 is part of a code point that isn't ASCII, and NUL means U+FFFD.
use Rattle.std.specs.Prelude.{ℕ, Bool, ◌||◌, ◌&&◌, List, map, nat_lt, ◌==◌}
use Rattle.std.specs.Char.{to_ascii_lowercase, is_ascii_alphanumeric}

-- line feed, form feed, carriage return
abbrev pub is_newline : ℕ → Bool
is_newline b = b == 10 || b == 12 || b == 13

-- a newline, tab or space
abbrev pub is_white : ℕ → Bool
is_white b = is_newline b || b == 9 || b == 32

-- `"` or `'`
abbrev pub is_quote : ℕ → Bool
is_quote b = b == 34 || b == 39

-- a byte of an ident code point: a letter, a digit, `-`, `_`, or no ASCII
abbrev pub is_name : ℕ → Bool
is_name b = is_ascii_alphanumeric b || b == 45 || b == 95 || b == 0 || nat_lt 127 b

-- a byte that a URL without quotes can't have: a quote, `(`, or what isn't printable
abbrev pub is_unfit : ℕ → Bool
is_unfit b = is_quote b || b == 40 || b == 127 || b == 11 || (nat_lt 0 b && nat_lt b 9) || (nat_lt 13 b && nat_lt b 32)

-- a byte that does more between tokens, outside of image sets, than begin, continue or end a word: a quote, `(`, `/`, `@` or a backslash
abbrev pub is_loud : ℕ → Bool
is_loud b = is_quote b || (b == 40 || (b == 47 || (b == 64 || b == 92)))

-- a text with its ASCII letters in lower case
abbrev pub lower : List ℕ → List ℕ
lower = map to_ascii_lowercase
