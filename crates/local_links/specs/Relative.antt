-- References between files: what is written for one, and where it leads (RFC 3986, sections 2.1, 4.2 and 5.2.4).
use Rattle.std.specs.Prelude.{◌≡◌, ◌≢◌, ℕ, ◌||◌, ◌==◌, Bool, true, List, [], ◌∷◌, ◌++◌, map, drop, codes, if◌then◌else◌, All}
use Rattle.std.specs.List.{slice_split, flat_map, join_with_byte}
use Rattle.std.specs.Str.{bytes_eq}
use Rattle.std.specs.Char.{is_ascii_alphanumeric}
use Rattle.percent_encoding.specs.Percent.{percent_encode_byte, percent_decode}

-- a part of a name between two slashes
abbrev pub Segment : Type 0
Segment = List ℕ

abbrev pub is_slash : ℕ → Bool
is_slash b = b == 47

-- ---- where a reference leads

-- the directories of a name's segments, innermost first
abbrev pub directories : List Segment → List Segment
directories [] = []
directories (one ∷ []) = []
directories (one ∷ next ∷ others) = directories (next ∷ others) ++ one ∷ []

-- the segments of a reference, one after another: `..` leads a directory up, `.` stays, any other, with its escapes replaced,
-- leads down; innermost first
abbrev pub walk : List Segment → List Segment → List Segment
walk at [] = at
walk at (one ∷ others) =
    if bytes_eq one (codes "..") then walk (drop 1 at) others
    else if bytes_eq one (codes ".") then walk at others
    else walk (percent_decode one ∷ at) others

-- these, after those in the other order
abbrev pub onto : List Segment → List Segment → List Segment
onto [] others = others
onto (one ∷ more) others = onto more (one ∷ others)

-- the name to which a reference in the file of that name leads
unfoldable pub resolve : List ℕ → List ℕ → List ℕ
resolve from text = join_with_byte 47 (onto (walk (directories (slice_split is_slash from)) (slice_split is_slash text)) [])

-- ---- what is written

-- a byte that means itself in each language: a letter, a digit, `-`, `.`, `_` or `~` (RFC 3986, section 2.3)
abbrev pub is_unreserved : ℕ → Bool
is_unreserved b = is_ascii_alphanumeric b || b == 45 || b == 46 || b == 95 || b == 126

-- a byte as it is written: any other byte escaped
abbrev pub written_byte : ℕ → List ℕ
written_byte b = if is_unreserved b then b ∷ [] else percent_encode_byte b

-- a segment as it is written
abbrev pub written : Segment → Segment
written segment = flat_map written_byte segment

-- `..` for each of these directories
abbrev pub upward : List Segment → List Segment
upward [] = []
upward (one ∷ others) = codes ".." ∷ upward others

-- up out of the directories that the other name doesn't have, and down to it: the segments of a reference
abbrev pub between : List Segment → List Segment → List Segment
between [] to = map written to
between (f ∷ []) to = map written to
between (f ∷ g ∷ fs) [] = upward (directories (f ∷ g ∷ fs))
between (f ∷ g ∷ fs) (t ∷ []) = upward (directories (f ∷ g ∷ fs)) ++ written t ∷ []
between (f ∷ g ∷ fs) (t ∷ u ∷ us) =
    if bytes_eq f t then between (g ∷ fs) (u ∷ us)
    else (upward (directories (f ∷ g ∷ fs)) ++ map written (t ∷ u ∷ us))

-- the reference that leads from the file of one name to that of another
unfoldable pub relative : List ℕ → List ℕ → List ℕ
relative from to = join_with_byte 47 (between (slice_split is_slash from) (slice_split is_slash to))

-- ---- what holds of both

-- a segment that names something in its directory
pub record LeadsDown (segment : Segment) : Type 0 where
  pub not_here : segment ≢ codes "."
  pub not_above : segment ≢ codes ".."

-- each segment of the name is one
abbrev pub IsLocal : List ℕ → Type 0
IsLocal name = All LeadsDown (slice_split is_slash name)

-- a byte that means itself in each language: an unreserved one, `%` or `/`
abbrev pub IsLinkByte : ℕ → Type 0
IsLinkByte b = (is_unreserved b || b == 37 || b == 47) ≡ true
