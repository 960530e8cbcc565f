-- Which cookies a request for an address holds, and the value of its field (RFC 6265, sections 5.1.3, 5.1.4 and 5.4).
use Rattle.std.specs.Prelude.{◌≡◌, ◌⊎◌, ◌≤◌, IsTrue, ◌&&◌, ◌||◌, ◌==◌, ◌-◌, ◌++◌, ℕ, Bool, true, false, not, List, [], ◌∷◌, Option, Some, None, bytes_eq, codes, drop, filter, length, nat_eq, nat_le, take, unwrap_or, if◌then◌else◌}
use Rattle.std.specs.Char.{is_ascii_digit}
use Rattle.std.specs.List.{ends_with, list_all, list_any, starts_with}
use Rattle.std.specs.Option.{option_map_or}
use Rattle.address.specs.Address.{AddressText, host_of, path_query_of, port_of, scheme_of, scheme_port}
use Rattle.address.specs.declared.scheme.Scheme.{Scheme}
use Rattle.address.specs.declared.scheme.Scheme.TheVariants as scheme
use Rattle.cookie_files.specs.Lines.{Cookie, Text, cut, is_bracketed, is_control}

-- ---- domain-match (section 5.1.3)

-- an IP address, as addresses write hosts: digits and dots, or in brackets
abbrev pub is_number_byte : ℕ → Bool
is_number_byte byte = is_ascii_digit byte || byte == 46

abbrev pub is_ip_address : Text → Bool
is_ip_address host = is_bracketed host || list_all is_number_byte host

-- the domain is a suffix of the host, and the last byte of the host that isn't in the domain is a dot
abbrev pub IsBelow : Text → Text → Type 0
IsBelow domain host = (front : Text) × (host ≡ front ++ (codes "." ++ domain))

-- they are identical, or subdomains count and the host is below the domain, and no IP address
abbrev pub DomainMatches : Bool → Text → Text → Type 0
DomainMatches subdomains domain host = (host ≡ domain) ⊎ (IsTrue subdomains × IsBelow domain host × (¬ IsTrue (is_ip_address host)))

-- the same as tests
unfoldable pub is_below : Text → Text → Bool
is_below domain host = ends_with nat_eq host domain && ends_with nat_eq (take (length host - length domain) host) (codes ".")

unfoldable pub domain_matches : Bool → Text → Text → Bool
domain_matches subdomains domain host = bytes_eq host domain || (subdomains && (is_below domain host && not (is_ip_address host)))

-- ---- path-match (section 5.1.4)

-- they are identical, or the cookie's path is a prefix of the other, and ends in a slash or the first byte after it is a slash
abbrev pub PathMatches : Text → Text → Type 0
PathMatches path asked =
    (asked ≡ path)
    ⊎ ((rest : Text) × (asked ≡ path ++ rest) × (((front : Text) × (path ≡ front ++ codes "/")) ⊎ ((more : Text) × (rest ≡ codes "/" ++ more))))

-- the same as a test
unfoldable pub path_matches : Text → Text → Bool
path_matches path asked =
    bytes_eq asked path
    || (starts_with nat_eq asked path && (ends_with nat_eq path (codes "/") || starts_with nat_eq (drop (length path) asked) (codes "/")))

-- the path of an address, without its query
unfoldable pub path_of : AddressText → Text
path_of at = option_map_or (λ parts. parts.0) (cut 63 (path_query_of at)) (path_query_of at)

-- ---- which cookies are sent (section 5.4)

-- what of an address decides
pub record Asked : Type 0 where
  pub host : Text
  pub path : Text
  pub port : ℕ
  pub by : Scheme

abbrev pub asked_of : AddressText → Asked
asked_of at = record { host = host_of at; path = path_of at; port = unwrap_or (port_of at) (scheme_port (scheme_of at)); by = scheme_of at }

-- the cookie goes there at this time: its host and its path are those, its port, if it has one, is that; if it is for https alone, it goes
-- by https; and its expiry, if it has one, isn't past
pub record Goes (asked : Asked) (now : ℕ) (cookie : Cookie) : Type 0 where
  pub domain : DomainMatches cookie.subdomains cookie.host asked.host
  pub path : PathMatches cookie.path asked.path
  pub port : (cookie.port ≡ None) ⊎ (cookie.port ≡ Some asked.port)
  pub safe : (cookie.secure ≡ false) ⊎ (asked.by ≡ scheme.Https)
  pub alive : (cookie.expiry ≡ 0) ⊎ (now ≤ cookie.expiry)

-- the same as tests
unfoldable pub port_matches : Option ℕ → ℕ → Bool
port_matches None asked = true
port_matches (Some port) asked = port == asked

unfoldable pub is_safe : Bool → Scheme → Bool
is_safe secure scheme.Https = true
is_safe secure scheme.Http = not secure

unfoldable pub is_alive : ℕ → ℕ → Bool
is_alive expiry now = expiry == 0 || nat_le now expiry

unfoldable pub goes : Asked → ℕ → Cookie → Bool
goes asked now cookie =
    domain_matches cookie.subdomains cookie.host asked.host
    && (path_matches cookie.path asked.path
    && (port_matches cookie.port asked.port && (is_safe cookie.secure asked.by && is_alive cookie.expiry now)))

-- those of the cookies that go there: all of them, in their order
abbrev pub sent : Asked → ℕ → List Cookie → List Cookie
sent asked now cookies = filter (goes asked now) cookies

-- ---- the value of the field (section 4.2.1)

-- name and value of a cookie
unfoldable pub pair_of : Cookie → Text
pair_of cookie = cookie.name ++ (codes "=" ++ cookie.value)

-- the pairs, with a semicolon and a space between two
abbrev pub value_of : List Cookie → Text
value_of [] = []
value_of (cookie ∷ []) = pair_of cookie
value_of (cookie ∷ next ∷ others) = pair_of cookie ++ (codes "; " ++ value_of (next ∷ others))

-- the same, a cookie after another: a mark is before each that isn't the first
abbrev pub marked : Text → Text
marked text = if length text == 0 then text else text ++ codes "; "

abbrev pub with_sent : Asked → ℕ → Text → Cookie → Text
with_sent asked now text cookie = if goes asked now cookie then marked text ++ pair_of cookie else text

-- the value of the field of a request for this address at this time, if it has the field
abbrev pub some_value : List Cookie → Option Text
some_value [] = None
some_value (cookie ∷ others) = Some (value_of (cookie ∷ others))

abbrev pub field_value : AddressText → ℕ → List Cookie → Option Text
field_value at now cookies = some_value (sent (asked_of at) now cookies)

-- it has no control byte, so neither CR, LF nor NUL
abbrev pub IsClean : Text → Type 0
IsClean text = list_any is_control text ≡ false
