-- Which cookies of a file count, and their order.
use Rattle.std.specs.Prelude.{◌≡◌, ◌⊎◌, ◌≤◌, ◌&&◌, ◌==◌, ◌+◌, ℕ, Bool, true, false, not, List, [], ◌∷◌, Option, Some, None, Result, Ok, Err, MatchResult, bytes_eq, filter, length, nat_lt, if◌then◌else◌}
use Rattle.std.specs.List.{flat_map, list_any, slice_split}
use Rattle.cookie_files.specs.Lines.{Cookie, Fields, Text, cookie_of, read_line}
use Rattle.cookie_files.specs.declared.fault.CookieFault.{CookieFault}
use Rattle.cookie_files.specs.declared.fault.CookieLineFault.{CookieLineFault}
use Rattle.cookie_files.specs.declared.fault.CookieFault.TheVariants as fault
use Rattle.cookie_files.specs.declared.cookies.TheConstants.{MAX_FILE, MAX_LINES}

abbrev pub is_same_port : Option ℕ → Option ℕ → Bool
is_same_port None None = true
is_same_port (Some one) (Some other) = one == other
is_same_port one other = false

-- a later cookie of the same name, domain and path takes the place of one (RFC 6265, section 5.3)
unfoldable pub replaces : Cookie → Cookie → Bool
replaces later cookie =
    bytes_eq later.name cookie.name && bytes_eq later.host cookie.host && bytes_eq later.path cookie.path && is_same_port later.port cookie.port

-- those of the cookies of a file that count: no later one takes their place
abbrev pub that_count : List Cookie → List Cookie
that_count [] = []
that_count (cookie ∷ later) = if list_any (λ other. replaces other cookie) later then that_count later else cookie ∷ that_count later

-- ---- their order (RFC 6265, section 5.4): those of longer paths first, and of paths that are as long as they are in the file

abbrev pub AreNoLonger : ℕ → List Cookie → Type 0
AreNoLonger most [] = Unit {0}
AreNoLonger most (cookie ∷ others) = (length cookie.path ≤ most) × AreNoLonger most others

abbrev pub LongerFirst : List Cookie → Type 0
LongerFirst [] = Unit {0}
LongerFirst (cookie ∷ others) = AreNoLonger (length cookie.path) others × LongerFirst others

abbrev pub with_length : ℕ → List Cookie → List Cookie
with_length n cookies = filter (λ cookie. length cookie.path == n) cookies

-- these are the cookies of a file that count, in their order
pub record AreOf (file : List Cookie) (cookies : List Cookie) : Type 0 where
  pub longer_first : LongerFirst cookies
  pub in_file_order : (n : ℕ) → with_length n cookies ≡ with_length n (that_count file)

-- ---- how they are put so, one after another

-- before the first that has a shorter path
abbrev pub placed : Cookie → List Cookie → List Cookie
placed cookie [] = cookie ∷ []
placed cookie (first ∷ later) = if nat_lt (length first.path) (length cookie.path) then cookie ∷ first ∷ later else first ∷ placed cookie later

-- with one more, which takes the place of those before
abbrev pub added : Cookie → List Cookie → List Cookie
added cookie cookies = placed cookie (filter (λ other. not (replaces cookie other)) cookies)

-- ---- what is read

abbrev pub is_feed : ℕ → Bool
is_feed byte = byte == 10

-- the cookies so far, and what a line says
abbrev pub said_by : List Cookie → Option Fields → List Cookie
said_by cookies None = cookies
said_by cookies (Some fields) = added (cookie_of fields) cookies

-- what follows from a line of this number
abbrev pub by_line : ℕ → Result (Option Fields) CookieLineFault → (Option Fields → Result (List Cookie) CookieFault) → Result (List Cookie) CookieFault
by_line number (Ok said) next = next said
by_line number (Err why) next = Err (fault.Line number why)

-- the cookies so far, and those of the lines from this number on
abbrev pub read_lines : ℕ → List Cookie → List Text → Result (List Cookie) CookieFault
read_lines number cookies [] = Ok cookies
read_lines number cookies (line ∷ lines) =
    if nat_lt MAX_LINES number then Err fault.TooManyLines
    else by_line number (read_line line) (λ said. read_lines (number + 1) (said_by cookies said) lines)

-- the cookies of a file
unfoldable pub read_file : Text → Result (List Cookie) CookieFault
read_file file = if nat_lt MAX_FILE (length file) then Err fault.TooLong else read_lines 1 [] (slice_split is_feed file)

-- all cookies that the lines of a file say, in their order
abbrev pub said_in : Result (Option Fields) CookieLineFault → List Cookie
said_in (Ok (Some fields)) = cookie_of fields ∷ []
said_in other = []

abbrev pub cookies_in : Text → List Cookie
cookies_in file = flat_map (λ line. said_in (read_line line)) (slice_split is_feed file)

-- the result is the expected one, unless memory ran out
abbrev pub Gives : Result (List Cookie) CookieFault → Result (List Cookie) CookieFault → Type 0
Gives result expected = MatchResult result (λ cookies. expected ≡ Ok cookies) (λ why. (expected ≡ Err why) ⊎ (why ≡ fault.Memory))
