-- What the lines of a robots file say (RFC 9309, sections 2.2 and 2.5).
use Rattle.std.specs.Prelude.{ℕ, ◌-◌, Bool, true, false, ◌||◌, ◌==◌, nat_eq, nat_lt, List, [], ◌∷◌, length, map, take, drop, codes, if◌then◌else◌, Option, Some, None}
use Rattle.std.specs.List.{slice_split, before_first, after_first, before_last, list_any, filter_map, prefix_len, suffix_len, starts_with}
use Rattle.std.specs.Str.{bytes_eq}
use Rattle.std.specs.Char.{to_ascii_lowercase}

-- only so many bytes of a file are used (section 2.5)
abbrev pub MAX_BYTES : ℕ
MAX_BYTES = 512000

-- CR and LF end a line (section 2.2, EOL)
abbrev pub is_line_end : ℕ → Bool
is_line_end octet = octet == 13 || octet == 10

-- the text after a UTF-8 byte order mark, if it begins with one
abbrev pub without_mark : List ℕ → List ℕ
without_mark text = if starts_with nat_eq text (239 ∷ 187 ∷ 191 ∷ []) then drop 3 text else text

-- the part of a file that is used: of a longer one what is before its last line end there
unfoldable pub used : List ℕ → List ℕ
used file =
    if nat_lt MAX_BYTES (length file)
    then before_last is_line_end (without_mark (take MAX_BYTES file))
    else without_mark file

-- the texts of the lines; between CR and LF is an empty one, which says nothing
abbrev pub line_texts_of : List ℕ → List (List ℕ)
line_texts_of file = slice_split is_line_end (used file)

-- ---- what a line says

-- the text before the first `#` (section 2.2, comment)
abbrev pub uncommented : List ℕ → List ℕ
uncommented text = before_first (λ octet. octet == 35) text

-- space and tab (section 2.2, WS)
abbrev pub is_blank : ℕ → Bool
is_blank octet = octet == 32 || octet == 9

-- without the blanks at its front
abbrev pub trim_start : List ℕ → List ℕ
trim_start text = drop (prefix_len is_blank text) text

-- without the blanks at its end
abbrev pub trim_end : List ℕ → List ℕ
trim_end text = take (length text - suffix_len is_blank text) text

-- without the blanks at both ends
abbrev pub without_blanks : List ℕ → List ℕ
without_blanks text = trim_end (trim_start text)

-- the text is the word, without regard to case
abbrev pub is_word : List ℕ → List ℕ → Bool
is_word word text = bytes_eq (map to_ascii_lowercase text) word

-- a rule as its line states it: whether it allows, and its pattern as written
pub record RuleLine : Type 0 where
  pub allows : Bool
  pub pattern : List ℕ

-- a line that says something: it names a user agent (startgroupline), or states a rule
pub data LineValue : Type 0 where
  agent : List ℕ → LineValue
  rule : RuleLine → LineValue

-- what a line with this key and this value says; with any other key it says nothing
unfoldable pub line_by : List ℕ → List ℕ → Option LineValue
line_by key value =
    if is_word (codes "user-agent") key then Some (agent value)
    else (if is_word (codes "allow") key then Some (rule (record { allows = true; pattern = value }))
    else (if is_word (codes "disallow") key then Some (rule (record { allows = false; pattern = value }))
    else None))

-- the key is before the first `:` and the value after it; a line without a `:` says nothing
unfoldable pub line_of : List ℕ → Option LineValue
line_of line =
    let text = uncommented line in
    if list_any (λ octet. octet == 58) text
    then line_by (without_blanks (before_first (λ octet. octet == 58) text)) (without_blanks (after_first (λ octet. octet == 58) text))
    else None

-- the lines of a file that say something, in their order
unfoldable pub lines_in : List ℕ → List LineValue
lines_in file = filter_map line_of (line_texts_of file)
