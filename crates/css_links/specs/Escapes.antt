-- What an escaped text says (CSS Syntax Level 3, sections 4.3.5, 4.3.7 and 4.3.11).
use Rattle.std.specs.Prelude.{ℕ, ◌+◌, ◌*◌, ◌-◌, Bool, false, ◌&&◌, ◌||◌, List, [], ◌∷◌, ◌++◌, nat_lt, if◌then◌else◌, ◌==◌}
use Rattle.std.specs.Char.{encode_utf8, is_ascii_hexdigit, to_ascii_lowercase}
use Rattle.css_links.specs.Bytes.{is_newline, is_white}
use Rattle.css_links.specs.declared.escape.Reading.{Reading}
use Rattle.css_links.specs.declared.escape.Reading.TheVariants.{Plain, Begun, Number, Return}

-- what a hexadecimal digit is worth, by its byte
abbrev pub digit : ℕ → ℕ
digit b = if nat_lt b 58 then b - 48 else (to_ascii_lowercase b - 87)

-- a number with one more digit; one that is no character any more stays so
abbrev pub with_digit : ℕ → ℕ → ℕ
with_digit value b = if nat_lt 0x10FFFF value then value else value * 16 + digit b

-- a Unicode scalar value other than 0
abbrev pub is_character : ℕ → Bool
is_character n = if n == 0 then false else (nat_lt n 0xD800 || (nat_lt 0xDFFF n && nat_lt n 0x110000))

-- the character of that number, or else U+FFFD
abbrev pub character : ℕ → List ℕ
character n = encode_utf8 (if is_character n then n else 0xFFFD)

-- a text that was read, and where in an escape it ends
pub record Text : Type 0 where
  pub text : List ℕ
  pub reading : Reading

-- that text, and the next place
abbrev pub read : List ℕ → Reading → Text
read t r = record { text = t; reading = r }

-- outside of escapes: a backslash begins one
abbrev pub plainly : List ℕ → ℕ → Text
plainly t b = if b == 92 then read t Begun else read (t ++ b ∷ []) Plain

-- after a backslash: a newline is left out, a hexadecimal digit begins a number, any other byte means itself
abbrev pub begun : List ℕ → ℕ → Text
begun t b =
    if b == 13 then read t Return
    else if is_newline b then read t Plain
    else if is_ascii_hexdigit b then read t (Number 1 (digit b))
    else read (t ++ b ∷ []) Plain

-- after a number: one white ends it and is left out
abbrev pub ended : List ℕ → ℕ → Text
ended t b =
    if b == 13 then read t Return
    else if is_white b then read t Plain
    else plainly t b

-- in a number, of at most six digits
abbrev pub numbered : ℕ → ℕ → List ℕ → ℕ → Text
numbered n value t b =
    if nat_lt n 6 && is_ascii_hexdigit b then read t (Number (n + 1) (with_digit value b))
    else ended (t ++ character value) b

-- after a carriage return that was left out, with its line feed
abbrev pub returned : List ℕ → ℕ → Text
returned t b = if b == 10 then read t Plain else plainly t b

-- what one more byte makes of it
abbrev pub read_in : Reading → List ℕ → ℕ → Text
read_in Plain t b = plainly t b
read_in Begun t b = begun t b
read_in (Number n value) t b = numbered n value t b
read_in Return t b = returned t b

-- what the text says, at its end: a number that is there counts
abbrev pub whole_in : Reading → List ℕ → List ℕ
whole_in Plain t = t
whole_in Begun t = t
whole_in (Number n value) t = t ++ character value
whole_in Return t = t

-- what is said by what was read and the rest
abbrev pub says : Text → List ℕ → List ℕ
says t [] = whole_in t.reading t.text
says t (b ∷ bs) = says (read_in t.reading t.text b) bs

-- a text with its escapes replaced
unfoldable pub unescaped : List ℕ → List ℕ
unescaped text = says (read [] Plain) text
