-- Domains, and the hosts that they have (GNU Wget manual, section Spanning Hosts).
use Rattle.std.specs.Prelude.{◌≡◌, ◌⊎◌, ℕ, Bool, not, ◌&&◌, ◌||◌, ◌==◌, [], ◌∷◌, Option, Some, None, if◌then◌else◌, List, ◌++◌, length, codes, nat_eq, bytes_eq}
use Rattle.std.specs.Char.{is_ascii_alphanumeric}
use Rattle.std.specs.List.{ends_with, list_all}
use Rattle.std.specs.Str.{str_to_ascii_lowercase}
use Rattle.follow_filters.specs.Texts.{EndsIn}

-- the host is the domain or ends in a dot and the domain, without regard to ASCII case
abbrev pub IsInDomain : List ℕ → List ℕ → Type 0
IsInDomain domain host =
    (str_to_ascii_lowercase host ≡ str_to_ascii_lowercase domain)
    ⊎ EndsIn (str_to_ascii_lowercase host) (codes "." ++ str_to_ascii_lowercase domain)

-- the same as a test
unfoldable pub is_in_domain : List ℕ → List ℕ → Bool
is_in_domain domain host =
    bytes_eq (str_to_ascii_lowercase host) (str_to_ascii_lowercase domain)
    || ends_with nat_eq (str_to_ascii_lowercase host) (codes "." ++ str_to_ascii_lowercase domain)

-- ---- how a domain is written

-- the text without one leading dot
abbrev pub without_dot : List ℕ → List ℕ
without_dot [] = []
without_dot (first ∷ text) = if first == 46 then text else first ∷ text

-- a letter or digit of ASCII, `-`, `_` or `.`
abbrev pub is_domain_byte : ℕ → Bool
is_domain_byte byte = is_ascii_alphanumeric byte || byte == 45 || byte == 95 || byte == 46

-- one or more such bytes
abbrev pub is_domain : List ℕ → Bool
is_domain text = not (length text == 0) && list_all is_domain_byte text

-- the domain that a text is without one leading dot, none if that is no domain
unfoldable pub read_domain : List ℕ → Option (List ℕ)
read_domain text = if is_domain (without_dot text) then Some (without_dot text) else None
