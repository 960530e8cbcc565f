-- Plain names: the name that a page has if nothing is in its way. It is made of the page's address and the rules alone, host
-- and path becoming directories (GNU Wget manual, Directory Options).
use Rattle.std.specs.Prelude.{ℕ, Bool, true, false, not, ◌==◌, ◌&&◌, ◌||◌, ◌-◌, nat_eq, nat_lt, Option, Some, None, List, [], ◌∷◌, ◌++◌, map, take, drop, length, codes, string_bytes, if◌then◌else◌}
use Rattle.std.specs.Char.{encode_utf8, to_ascii_lowercase, to_ascii_uppercase}
use Rattle.std.specs.List.{slice_split, starts_with, ends_with, list_all, concat, filter, join_with_byte}
use Rattle.std.specs.declared.string.String.{String}
use Rattle.bstr.specs.Utf8.{Decoded, pieces}
use Rattle.percent_encoding.specs.Percent.{percent_encode_byte, percent_decode}
use Rattle.address.specs.Address.{AddressText, scheme_of, scheme_text, host_of, port_of, port_text, dir_of, file_of, query_of}
use Rattle.local_names.specs.declared.rules.CharRules.{CharRules}
use Rattle.local_names.specs.declared.rules.LetterCase.{LetterCase}
use Rattle.local_names.specs.declared.rules.LetterCase.TheVariants.{AsIs, Lower, Upper}
use Rattle.local_names.specs.declared.rules.NameRules.{NameRules}
use Rattle.local_names.specs.declared.plain_name.TheConstants.{MAX_SEGMENT, ORIGINAL, PART}

-- what is between the segments of a name
abbrev pub slash : ℕ
slash = 47

-- the byte is between two segments
abbrev pub is_slash : ℕ → Bool
is_slash byte = byte == slash

-- the byte is a dot
abbrev pub is_dot : ℕ → Bool
is_dot byte = byte == 46

-- the text isn't empty
abbrev pub has_bytes : List ℕ → Bool
has_bytes [] = false
has_bytes (byte ∷ bytes) = true

-- ---- characters

-- a control byte
abbrev pub is_control : ℕ → Bool
is_control byte = nat_lt byte 32 || byte == 127

-- a character that Windows refuses in a name: one of `" * : < > ? \ |`
abbrev pub is_refused_by_windows : ℕ → Bool
is_refused_by_windows c = c == 34 || c == 42 || c == 58 || c == 60 || c == 62 || c == 63 || c == 92 || c == 124

-- a name has the character as it is
abbrev pub is_kept : CharRules → ℕ → Bool
is_kept rules c =
    not (is_control c) && not (is_slash c) && not (rules.is_ascii && nat_lt 127 c) && not (rules.is_windows && is_refused_by_windows c)

-- the character with ASCII's letters in this case
abbrev pub in_case : LetterCase → ℕ → ℕ
in_case AsIs c = c
in_case Lower c = to_ascii_lowercase c
in_case Upper c = to_ascii_uppercase c

-- the rules for what isn't of the path: its letters stay as they are
abbrev pub with_letters : CharRules → CharRules
with_letters rules = record rules { letter_case = AsIs }

-- ---- units

-- bytes that a name has whole or not at all: a character, or an escape of a byte
abbrev pub Unit : Type 0
Unit = List ℕ

-- the units of a piece of a text: of a character that is kept this, of any other piece an escape for each byte
abbrev pub piece_units : CharRules → Option ℕ → List ℕ → List Unit
piece_units rules None bytes = map percent_encode_byte bytes
piece_units rules (Some c) bytes =
    if is_kept rules c then encode_utf8 (in_case rules.letter_case c) ∷ [] else map percent_encode_byte bytes

-- the units of these pieces of a text, one after another
abbrev pub units_by : CharRules → List Decoded → List ℕ → List Unit
units_by rules [] bytes = []
units_by rules (piece ∷ others) bytes = piece_units rules piece.char (take piece.size bytes) ++ units_by rules others (drop piece.size bytes)

-- the units of a text, whose pieces are characters in UTF-8 and bytes that aren't part of one
unfoldable pub units_of : CharRules → List ℕ → List Unit
units_of rules bytes = units_by rules (pieces bytes) bytes

-- the same of what follows a mark, with this in its place
abbrev pub marked_units : CharRules → ℕ → List ℕ → List Unit
marked_units rules mark [] = []
marked_units rules mark (byte ∷ bytes) = (mark ∷ []) ∷ units_of rules bytes

-- ---- segments

-- the units of a segment; if it is dots alone each is `%2E`, since `.` and `..` name other directories
abbrev pub without_dots : List Unit → List Unit
without_dots units = if list_all is_dot (concat units) then map (λ dot. percent_encode_byte 46) units else units

-- the first units that have no more bytes than this
abbrev pub cut : ℕ → List Unit → List ℕ
cut room [] = []
cut room (unit ∷ units) = if nat_lt room (length unit) then [] else (unit ++ cut (room - length unit) units)

-- the text begins as the name of a part: of what a folder writes directly below itself, before it gets a page's name
abbrev pub is_part : List ℕ → Bool
is_part text = starts_with nat_eq text PART.now

-- the same of a segment, of which the first has its first dot escaped if it would begin so
abbrev pub cut_in : Bool → ℕ → List Unit → List ℕ
cut_in is_first room units =
    if is_first && is_part (cut room units) then (percent_encode_byte 46 ++ cut (room - 3) (drop 1 units)) else cut room units

-- the segment as it is in a name, first or after others, with no more bytes than this: its dots escaped, and then cut
abbrev pub segment_within : Bool → ℕ → List Unit → List ℕ
segment_within is_first room units = cut_in is_first room (without_dots units)

-- the same with as many bytes as a segment may have
abbrev pub local_segment : Bool → List Unit → List ℕ
local_segment is_first units = segment_within is_first MAX_SEGMENT units

-- the same with this after it, for which the cut leaves room
abbrev pub segment_with : List ℕ → Bool → List Unit → List ℕ
segment_with end is_first units = segment_within is_first (MAX_SEGMENT - length end) units ++ end

-- the name, or a segment, ends as the name of a body as it came, which may be beside the file of its page
abbrev pub is_original : List ℕ → Bool
is_original name = ends_with nat_eq name ORIGINAL.now

-- a segment as it is in a name, first or after others
abbrev pub Segment : Type 0
Segment = Bool → List ℕ

-- a directory of a path: with `.1` after it if it would end so, and names have originals
abbrev pub dir_segment : Bool → List Unit → Segment
dir_segment has_originals units is_first =
    if has_originals && is_original (local_segment is_first units) then segment_with (codes ".1") is_first units else local_segment is_first units

-- the segments as they are in a name
abbrev pub local_segments : List Segment → List (List ℕ)
local_segments [] = []
local_segments (first ∷ others) = first true ∷ map (λ segment. segment false) others

-- ---- the segments of a page's name

-- what is between host and port, and between file name and query
abbrev pub port_mark : CharRules → ℕ
port_mark rules = if rules.is_windows then 43 else 58

abbrev pub query_mark : CharRules → ℕ
query_mark rules = if rules.is_windows then 64 else 63

-- host and port (the port unless it is the scheme's)
abbrev pub host_units : NameRules → AddressText → List Unit
host_units rules page =
    units_of (with_letters rules.chars) (host_of page) ++ marked_units (with_letters rules.chars) (port_mark rules.chars) (port_text (port_of page))

-- the segments of a path's directory; empty ones are left out
abbrev pub dir_segments : List ℕ → List (List ℕ)
dir_segments dir = filter has_bytes (slice_split is_slash dir)

-- a segment of the path: its escapes are decoded once
abbrev pub path_units : NameRules → List ℕ → List Unit
path_units rules segment = units_of rules.chars (percent_decode segment)

-- the same as a directory
abbrev pub path_segment : NameRules → List ℕ → Segment
path_segment rules segment = dir_segment rules.has_originals (path_units rules segment)

-- the name that is given, or `index.html` if none is, or an empty one
abbrev pub or_index : {Y : Type 0} → Option (String Y) → List ℕ
or_index None = codes "index.html"
or_index (Some name) = if has_bytes (string_bytes name) then string_bytes name else codes "index.html"

-- the name of a page whose path ends in `/`
abbrev pub default_page : NameRules → List ℕ
default_page rules = or_index rules.default_page

-- the file name, or that of such a page, and the query
abbrev pub file_units : NameRules → List ℕ → List Unit
file_units rules file = if has_bytes file then path_units rules file else units_of rules.chars (default_page rules)

abbrev pub last_units : NameRules → AddressText → List Unit
last_units rules page =
    file_units rules (file_of page) ++ marked_units (with_letters rules.chars) (query_mark rules.chars) (percent_decode (query_of page))

-- what is in front of the path: the scheme, and the host
abbrev pub scheme_segment : NameRules → AddressText → List Segment
scheme_segment rules page =
    if rules.has_protocol then (λ is_first. local_segment is_first (units_of (with_letters rules.chars) (scheme_text (scheme_of page)))) ∷ [] else []

abbrev pub host_segment : NameRules → AddressText → List Segment
host_segment rules page = if rules.has_host then (λ is_first. local_segment is_first (host_units rules page)) ∷ [] else []

-- the directories of a name: those in front, in which no file of a page is directly, and those of the path except the first ones
-- that are cut
abbrev pub front_segments : NameRules → AddressText → List Segment
front_segments rules page =
    if rules.has_directories
    then (scheme_segment rules page ++ (host_segment rules page ++ map (path_segment rules) (drop rules.cut_dirs (dir_segments (dir_of page)))))
    else []

-- no segment is in front of the last
abbrev pub is_alone : List Segment → Bool
is_alone [] = true
is_alone (front ∷ fronts) = false

-- the segments of a page's name: its directories, and the last, which has no more bytes than this
unfoldable pub segments_within : ℕ → NameRules → AddressText → List (List ℕ)
segments_within room rules page =
    local_segments (front_segments rules page) ++ segment_within (is_alone (front_segments rules page)) room (last_units rules page) ∷ []

-- the plain name of a page, whose last segment has no more bytes than this
unfoldable pub plain_name_within : ℕ → NameRules → AddressText → List ℕ
plain_name_within room rules page = join_with_byte slash (segments_within room rules page)

-- the same with this after it, for which the cut of the last segment leaves room
abbrev pub plain_name_with : List ℕ → NameRules → AddressText → List ℕ
plain_name_with end rules page = plain_name_within (MAX_SEGMENT - length end) rules page ++ end

-- the plain name of a page, whatever its body is: with `.1` after it if it would end so, and names have originals
abbrev pub plain_name_of : NameRules → AddressText → List ℕ
plain_name_of rules page =
    if rules.has_originals && is_original (plain_name_within MAX_SEGMENT rules page)
    then plain_name_with (codes ".1") rules page
    else plain_name_within MAX_SEGMENT rules page
