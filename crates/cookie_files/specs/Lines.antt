-- What a line of a cookie file says. A cookie is a line of seven fields with a TAB between two: domain, whether subdomains count, path,
-- whether it is for https alone, expiry, name and value.
use Rattle.std.specs.Prelude.{◌&&◌, ◌||◌, ◌==◌, ◌+◌, ◌*◌, ◌-◌, ℕ, Bool, true, false, not, List, [], ◌∷◌, Option, Some, None, Result, Ok, Err, bytes_eq, codes, drop, length, nat_eq, nat_lt, option_and_then, option_map, position, take, if◌then◌else◌}
use Rattle.std.specs.Char.{is_ascii_alphanumeric, is_ascii_digit}
use Rattle.std.specs.List.{ends_with, list_all, list_any, starts_with}
use Rattle.std.specs.Option.{option_map_or}
use Rattle.std.specs.Str.{str_to_ascii_lowercase}
use Rattle.cookie_files.specs.declared.fault.CookieLineFault.{CookieLineFault}
use Rattle.cookie_files.specs.declared.fault.CookieLineFault.TheVariants as fault

abbrev pub Text : Type 0
Text = List ℕ

-- a cookie
pub record Cookie : Type 0 where
  pub host : Text  -- in lower case
  pub port : Option ℕ  -- of any port if none is written
  pub subdomains : Bool  -- whether it is for hosts below the host, too
  pub path : Text
  pub secure : Bool
  pub expiry : ℕ  -- seconds since 1970; 0: with the session, which is the run
  pub name : Text
  pub value : Text

-- the fields of a line, as they are written
pub record Fields : Type 0 where
  pub domain : Text
  pub subdomains : Text
  pub path : Text
  pub secure : Text
  pub expiry : Text
  pub name : Text
  pub value : Text

-- ---- texts

-- what is before the first byte of this value, and what is after it, if there is one
unfoldable pub cut : ℕ → Text → Option (Text × Text)
cut mark text = option_map (λ at. (take at text, drop (at + 1) text)) (position (λ byte. byte == mark) text)

-- a control byte
abbrev pub is_control : ℕ → Bool
is_control byte = nat_lt byte 32 || byte == 127

-- a number is smaller than this before a digit is added to it
abbrev pub MAX_BEFORE : ℕ
MAX_BEFORE = 1000000000000000000

-- the number of which these are the digits so far, and those that follow
abbrev pub number_from : ℕ → Text → Option ℕ
number_from n [] = Some n
number_from n (digit ∷ digits) = if is_ascii_digit digit && nat_lt n MAX_BEFORE then number_from (10 * n + (digit - 48)) digits else None

-- the number that a text is: decimal digits
unfoldable pub number_in : Text → Option ℕ
number_in text = if length text == 0 then None else number_from 0 text

-- ---- fields

-- TRUE or FALSE
abbrev pub is_flag : Text → Bool
is_flag text = bytes_eq text (codes "TRUE") || bytes_eq text (codes "FALSE")

-- a letter or digit of ASCII, `-`, `_` or `.`
abbrev pub is_host_byte : ℕ → Bool
is_host_byte byte = is_ascii_alphanumeric byte || byte == 45 || byte == 46 || byte == 95

-- an address of IPv6 is written in brackets
abbrev pub is_bracketed : Text → Bool
is_bracketed text = starts_with nat_eq text (codes "[")

abbrev pub is_host : Text → Bool
is_host text = if is_bracketed text then ends_with nat_eq text (codes "]") else not (length text == 0) && list_all is_host_byte text

-- the text without one leading dot
abbrev pub without_dot : Text → Text
without_dot text = if starts_with nat_eq text (codes ".") then drop 1 text else text

-- the host of a domain, and its port if it has one: `.example.com:8080` is the host `example.com` at the port 8080
unfoldable pub place_of : Text → Text × Option Text
place_of text = if is_bracketed text then (text, None) else option_map_or (λ parts. (parts.0, Some parts.1)) (cut 58 text) (text, None)

unfoldable pub place_in : Text → Text × Option Text
place_in domain = place_of (without_dot domain)

-- a number of a port
unfoldable pub port_number : Text → Option ℕ
port_number text = option_and_then (λ n. if nat_lt n 65536 then Some n else None) (number_in text)

abbrev pub is_port : Option Text → Bool
is_port None = true
is_port (Some text) = option_map_or (λ n. true) (port_number text) false

abbrev pub is_domain : Text → Bool
is_domain domain = is_host (place_in domain).0 && is_port (place_in domain).1

abbrev pub is_path : Text → Bool
is_path text = starts_with nat_eq text (codes "/") && not (list_any is_control text)

abbrev pub is_expiry : Text → Bool
is_expiry text = option_map_or (λ n. true) (number_in text) false

-- a byte that a value may not have; nor may a name, which has no `=` besides
abbrev pub is_bad : ℕ → Bool
is_bad byte = is_control byte || byte == 59

abbrev pub is_bad_in_name : ℕ → Bool
is_bad_in_name byte = is_bad byte || byte == 61

abbrev pub is_name : Text → Bool
is_name text = not (length text == 0) && not (list_any is_bad_in_name text)

abbrev pub is_value : Text → Bool
is_value text = not (list_any is_bad text)

-- ---- lines

-- the seven fields of a line, of which the last has no end
unfoldable pub fields_of : Text → Option Fields
fields_of line =
    option_and_then (λ a. option_and_then (λ b. option_and_then (λ c. option_and_then (λ d. option_and_then (λ e. option_map (λ f.
    record { domain = a.0; subdomains = b.0; path = c.0; secure = d.0; expiry = e.0; name = f.0; value = f.1 })
    (cut 9 e.1)) (cut 9 d.1)) (cut 9 c.1)) (cut 9 b.1)) (cut 9 a.1)) (cut 9 line)

-- the first of the fields that can't be
unfoldable pub fault_of : Fields → Option CookieLineFault
fault_of fields =
    if not (is_domain fields.domain) then Some fault.Domain
    else (if not (is_flag fields.subdomains) then Some fault.Subdomains
    else (if not (is_path fields.path) then Some fault.Path
    else (if not (is_flag fields.secure) then Some fault.Secure
    else (if not (is_expiry fields.expiry) then Some fault.Expiry
    else (if not (is_name fields.name) then Some fault.Name
    else (if not (is_value fields.value) then Some fault.Value
    else None))))))

-- the cookie that the fields say
unfoldable pub cookie_of : Fields → Cookie
cookie_of fields =
    record {
      host = str_to_ascii_lowercase (place_in fields.domain).0;
      port = option_and_then port_number (place_in fields.domain).1;
      subdomains = bytes_eq fields.subdomains (codes "TRUE");
      path = fields.path;
      secure = bytes_eq fields.secure (codes "TRUE");
      expiry = option_map_or (λ n. n) (number_in fields.expiry) 0;
      name = fields.name;
      value = fields.value;
    }

-- a line that ends in CR LF is the line before these
abbrev pub without_return : Text → Text
without_return line = if ends_with nat_eq line (codes "\r") then take (length line - 1) line else line

-- a cookie that scripts don't see is written so; a request holds it as any other
abbrev pub without_mark : Text → Text
without_mark line = if starts_with nat_eq line (codes "#HttpOnly_") then drop 10 line else line

-- a line that says nothing: an empty one, or a comment
abbrev pub is_silent : Text → Bool
is_silent line = length line == 0 || starts_with nat_eq line (codes "#")

-- the fields, unless one can't be
abbrev pub sound : Option Fields → Result (Option Fields) CookieLineFault
sound None = Err fault.Fields
sound (Some fields) = option_map_or (λ fault. Err fault) (fault_of fields) (Ok (Some fields))

-- what a line says: the fields of a cookie, or nothing
unfoldable pub read_line : Text → Result (Option Fields) CookieLineFault
read_line text = let line = without_mark (without_return text) in if is_silent line then Ok None else sound (fields_of line)
