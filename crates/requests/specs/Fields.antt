-- What a run says in its requests besides the host: its own field lines, and those that a person adds or puts in their place.
use Rattle.std.specs.Prelude.{◌&&◌, ◌||◌, ◌==◌, ◌+◌, ◌++◌, ℕ, Bool, true, false, not, List, [], ◌∷◌, Option, Some, None, Result, Ok, Err, codes, is_none, length, nat_le, option_and_then, option_map, unwrap_or, if◌then◌else◌}
use Rattle.std.specs.List.{find, list_any, slice_split}
use Rattle.std.specs.Option.{option_map_or}
use Rattle.base64.specs.Engines.{standard}
use Rattle.base64.specs.GeneralPurpose.{encode_of}
use Rattle.requests.specs.Lines.{Field, Text, is_clean, is_named, is_secret, line_of, read_line}
use Rattle.requests.specs.declared.fields.FieldsFault.{FieldsFault}
use Rattle.requests.specs.declared.fields.FieldsFault.TheVariants.{Agent, Line, Referer, Size}
use Rattle.requests.specs.declared.fields.TheConstants.{MAX_SENT}
use Rattle.requests.specs.declared.line.TheConstants.{MAX_FIELD_LINE}
use Rattle.requests.specs.declared.login.TheConstants.{MAX_LOGIN}

-- ---- the program's own fields

abbrev pub field : Text → Text → Field
field name value = record { name = name; value = value }

-- a field of this name, unless its value is empty
abbrev pub some_field : Text → Text → List Field
some_field name value = if length value == 0 then [] else field name value ∷ []

-- what the program is called: nothing if the name that is given is empty
abbrev pub agent_fields : Option Text → List Field
agent_fields None = field (codes "User-Agent") (codes "wgetr/1.0") ∷ []
agent_fields (Some agent) = some_field (codes "User-Agent") agent

-- any type of body, without coding
abbrev pub accept_fields : List Field
accept_fields = field (codes "Accept") (codes "*/*") ∷ field (codes "Accept-Encoding") (codes "identity") ∷ []

-- answers of caches aren't taken (RFC 9111, sections 5.2.1.4 and 5.4)
abbrev pub cache_fields : Bool → List Field
cache_fields true = field (codes "Cache-Control") (codes "no-cache") ∷ field (codes "Pragma") (codes "no-cache") ∷ []
cache_fields false = []

-- the page that is said to have led here
abbrev pub referer_fields : Option Text → List Field
referer_fields None = []
referer_fields (Some url) = some_field (codes "Referer") url

-- how a user and a password, which a colon joins, are sent (RFC 7617, section 2)
abbrev pub login_value : Text → Text
login_value login = codes "Basic " ++ encode_of standard login

-- the same of both, unless they are too long
abbrev pub login_of : Text → Text → Option Text
login_of user password =
    if nat_le (length (login_value (user ++ (codes ":" ++ password)))) MAX_LOGIN then Some (login_value (user ++ (codes ":" ++ password))) else None

abbrev pub own_fields : Option Text → Option Text → Bool → List Field
own_fields agent referer is_uncached = agent_fields agent ++ (accept_fields ++ (cache_fields is_uncached ++ referer_fields referer))

-- ---- those that a person adds

-- what a text says that isn't empty, before what others say; nothing if it says no field
abbrev pub read_before : Text → Option (List Field) → Option (List Field)
read_before text others =
    if length text == 0 then others else option_and_then (λ said. option_map (λ fields. said ∷ fields) others) (read_line text)

-- what texts say, each a field unless it is empty; nothing if one says none
abbrev pub read_all : List Text → Option (List Field)
read_all [] = Some []
read_all (text ∷ texts) = read_before text (read_all texts)

abbrev pub is_nul : ℕ → Bool
is_nul byte = byte == 0

-- what lines say that have a NUL between them, which is in no word of a command line
unfoldable pub read_lines : Text → Option (List Field)
read_lines lines = read_all (slice_split is_nul lines)

-- a line isn't empty, and says no field that may be sent
abbrev pub is_bad_line : Text → Bool
is_bad_line line = not (length line == 0) && is_none (read_line line)

-- the first such line of those that have a NUL between them
unfoldable pub bad_line : Text → Option Text
bad_line lines = find is_bad_line (slice_split is_nul lines)

-- ---- which of all fields are sent, and to which servers

-- one of these has this name
abbrev pub is_among : Text → List Field → Bool
is_among name fields = list_any (λ other. is_named other.name name) fields

-- a field goes with all requests, or to origins of starts alone; `Host` has a place of its own
abbrev pub goes : Bool → Text → Bool
goes true name = is_secret name
goes false name = not (is_secret name) && not (is_named name (codes "host"))

-- the line of a field that goes there, unless a later one takes its place
abbrev pub first_text : Bool → Field → List Field → Text
first_text secret first later = if goes secret first.name && not (is_among first.name later) then line_of first else []

-- the lines of those that are secret, or those that aren't: a field takes the place of those of its name before it
abbrev pub lines_text : Bool → List Field → Text
lines_text secret [] = []
lines_text secret (first ∷ later) = first_text secret first later ++ lines_text secret later

-- the value of the last field of this name
abbrev pub last_named : Text → Option Text → List Field → Option Text
last_named name before [] = before
last_named name before (first ∷ later) = last_named name (if is_named first.name name then Some first.value else before) later

-- what is sent: a host in place of the address's, if one is given, the lines to each server, and to the origins of the starts alone those that
-- are secret, and credentials, unless an `Authorization` is among the lines; whether a `Cookie` is, and whether a condition is
pub record Sent : Type 0 where
  pub host : Option Text
  pub common : Text
  pub secret : Text
  pub signs : Bool
  pub has_cookie : Bool
  pub has_condition : Bool
  pub login : Option Text

abbrev pub sent : Option Text → List Field → Sent
sent login fields = record {
  host = last_named (codes "host") None fields;
  common = lines_text false fields;
  secret = lines_text true fields;
  signs = is_among (codes "authorization") fields;
  has_cookie = is_among (codes "cookie") fields;
  has_condition = is_among (codes "if-none-match") fields || is_among (codes "if-modified-since") fields;
  login = login;
}

-- how many bytes it has
abbrev pub bytes_sent : Sent → ℕ
bytes_sent said = length (unwrap_or said.host []) + (length said.common + length said.secret)

-- it, unless it is too long
abbrev pub fitting : Sent → Result Sent FieldsFault
fitting said = if nat_le (bytes_sent said) MAX_SENT then Ok said else Err Size

-- ---- all of it

-- a value of a field of the program's own may be: it has no control byte, and isn't too long
abbrev pub is_value : Option Text → Bool
is_value value = option_map_or (λ text. is_clean text && nat_le (length text) MAX_FIELD_LINE) value true

-- what is sent of the program's own fields and those that are added, if their lines say fields
abbrev pub sent_with : Option Text → Option Text → Bool → Option Text → Option (List Field) → Result Sent FieldsFault
sent_with agent referer is_uncached login None = Err Line
sent_with agent referer is_uncached login (Some said) = fitting (sent login (own_fields agent referer is_uncached ++ said))

-- what is sent if the agent, the page that led here, whether caches are passed by, the credentials, and the lines that are added are these,
-- or the first of them that can't be sent
unfoldable pub read_fields : Option Text → Option Text → Bool → Option Text → Text → Result Sent FieldsFault
read_fields agent referer is_uncached login lines =
    if not (is_value agent) then Err Agent
    else (if not (is_value referer) then Err Referer else sent_with agent referer is_uncached login (read_lines lines))
