-- Field lines of a request (RFC 9110, section 5), as a person may say them.
use Rattle.std.specs.Prelude.{◌&&◌, ◌||◌, ◌==◌, ◌++◌, ℕ, Bool, true, false, not, List, [], ◌∷◌, Option, Some, None, bytes_eq, codes, drop, length, map, nat_le, nat_lt, take, ◌-◌, if◌then◌else◌}
use Rattle.std.specs.Char.{is_ascii_alphanumeric, is_ascii_whitespace, to_ascii_lowercase}
use Rattle.std.specs.List.{after_first, before_first, list_all, list_any, prefix_len, suffix_len}
use Rattle.requests.specs.declared.line.TheConstants.{MAX_FIELD_LINE}

abbrev pub Text : Type 0
Text = List ℕ

-- a field: its name and its value
pub record Field : Type 0 where
  pub name : Text
  pub value : Text

-- its line (RFC 9112, section 5)
abbrev pub line_of : Field → Text
line_of field = field.name ++ codes ": " ++ field.value ++ codes "\r\n"

-- the same name, in letters of either case (RFC 9110, section 5.1)
abbrev pub is_named : Text → Text → Bool
is_named one other = bytes_eq (map to_ascii_lowercase one) (map to_ascii_lowercase other)

-- ---- which bytes may be

-- a control byte: CR, LF and NUL are such
abbrev pub is_control : ℕ → Bool
is_control byte = nat_lt byte 32 || byte == 127

-- no control byte is in the text
abbrev pub is_clean : Text → Bool
is_clean text = not (list_any is_control text)

-- no control byte is in a line, tabs aside (RFC 9110, section 5.5)
abbrev pub is_bad : ℕ → Bool
is_bad byte = is_control byte && not (byte == 9)

-- a byte of a token (RFC 9110, section 5.6.2)
abbrev pub is_mark : ℕ → Bool
is_mark byte = byte == 33 || byte == 35 || byte == 36 || byte == 37 || byte == 38 || byte == 39 || byte == 42 || byte == 43

abbrev pub is_other_mark : ℕ → Bool
is_other_mark byte = byte == 45 || byte == 46 || byte == 94 || byte == 95 || byte == 96 || byte == 124 || byte == 126

abbrev pub is_token_byte : ℕ → Bool
is_token_byte byte = is_ascii_alphanumeric byte || is_mark byte || is_other_mark byte

-- a token: one such byte or more
abbrev pub is_token : Text → Bool
is_token text = not (length text == 0) && list_all is_token_byte text

-- ---- which fields may be

-- a field of the connection, or of a body, which a request hasn't (RFC 9110, sections 7.6 and 10.1; RFC 9112, sections 6 and 9)
abbrev pub is_of_connection : Text → Bool
is_of_connection name =
    is_named name (codes "connection") || is_named name (codes "keep-alive") || is_named name (codes "proxy-connection")
    || is_named name (codes "te") || is_named name (codes "upgrade") || is_named name (codes "http2-settings")

abbrev pub is_of_body : Text → Bool
is_of_body name =
    is_named name (codes "transfer-encoding") || is_named name (codes "content-length") || is_named name (codes "trailer") || is_named name (codes "expect")

-- a field that requests a part of a page, or that is for a proxy
abbrev pub is_for_others : Text → Bool
is_for_others name = is_named name (codes "range") || is_named name (codes "if-range") || is_named name (codes "proxy-authorization")

-- bodies are requested as they are (RFC 9110, section 12.5.3)
abbrev pub is_coded : Field → Bool
is_coded field = is_named field.name (codes "accept-encoding") && not (is_named field.value (codes "identity"))

-- the field isn't sent, whoever says it
abbrev pub is_refused : Field → Bool
is_refused field = is_of_connection field.name || is_of_body field.name || is_for_others field.name || is_coded field

-- a field that goes to the origins of the starts alone (RFC 9110, section 11.6.2; RFC 6265, section 5.4)
abbrev pub is_secret : Text → Bool
is_secret name = is_named name (codes "authorization") || is_named name (codes "cookie")

-- ---- how a line is read

-- the text without white space at its ends
abbrev pub without_white : Text → Text
without_white text = take (length text - suffix_len is_ascii_whitespace text) text

abbrev pub trimmed : Text → Text
trimmed text = without_white (drop (prefix_len is_ascii_whitespace text) text)

-- the field that has this name and this value, if it may be sent
abbrev pub checked : Field → Option Field
checked field = if is_token field.name && not (is_refused field) then Some field else None

-- what a line without bad bytes says, if it has a colon
abbrev pub parted : Text → Option Field
parted line =
    if list_any (λ byte. byte == 58) line
    then checked (record { name = before_first (λ byte. byte == 58) line; value = trimmed (after_first (λ byte. byte == 58) line) })
    else None

-- a line isn't too long, and has no bad byte
abbrev pub is_line : Text → Bool
is_line line = nat_le (length line) MAX_FIELD_LINE && not (list_any is_bad line)

-- the field that a line says, if it says one
unfoldable pub read_line : Text → Option Field
read_line line = if is_line line then parted line else None
