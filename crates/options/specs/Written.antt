-- The words written out: each option at most once, by its long form and with the value that counts, and the first start after `--`.
use Rattle.std.specs.Prelude.{◌≡◌, ◌&&◌, ◌||◌, ◌==◌, ◌++◌, Bool, true, false, not, List, [], ◌∷◌, Option, Some, None, All, bytes_eq, codes, drop, length, if◌then◌else◌}
use Rattle.std.specs.List.{flat_map}
use Rattle.clap.specs.Walk.{Text}
use Rattle.options.specs.declared.said.Saying.{Saying}
use Rattle.options.specs.declared.said.Saying.TheVariants as saying
use Rattle.options.specs.declared.table.OptionKind.{OptionKind}
use Rattle.options.specs.declared.table.OptionKind.TheVariants as kind
use Rattle.options.specs.declared.table.Row.{Row}
use Rattle.options.specs.Said.{sayings}
use Rattle.options.specs.Table.{table}

-- the option's values add up
abbrev pub is_list : OptionKind Text → Bool
is_list (kind.List name) = true
is_list other = false

-- what is between the elements of this option's list: a comma, and between field lines a NUL, which is in no word
abbrev pub joint : Text → Text
joint name = if bytes_eq name (codes "header") then 0 ∷ [] else codes ","

-- a value after an earlier one: it replaces it, unless both are lists with elements, which this joins
abbrev pub added : Text → Bool → Option Text → Text → Text
added between adds None value = value
added between adds (Some earlier) value =
    if adds && not (length earlier == 0) && not (length value == 0) then earlier ++ between ++ value else value

-- what is said of the one option is said of the other, too: `-a` names a file as `-o` does
abbrev pub says_also : Text → Text → Bool
says_also said name = bytes_eq said name || (bytes_eq said (codes "append-output") && bytes_eq name (codes "output-file"))

-- what `--mirror` says of the option of this name: it is `-r -l inf -N`
abbrev pub mirrored : Text → Option Text
mirrored name =
    if bytes_eq name (codes "recursive") || bytes_eq name (codes "timestamping") then Some (codes "on") else (if bytes_eq name (codes "level") then Some (codes "inf") else None)

-- what an option with this value says of that of this name, if anything
abbrev pub said_of : Text → Text → Text → Option Text
said_of said value name =
    if says_also said name then Some value else (if bytes_eq said (codes "mirror") && bytes_eq value (codes "on") then mirrored name else None)

abbrev pub value_with : Text → Bool → Option Text → Option Text → Option Text
value_with name adds before None = before
value_with name adds before (Some value) = Some (added (joint name) adds before value)

-- the value of an option of this name after what was said before
abbrev pub value_after : Text → Bool → Option Text → Saying Text → Option Text
value_after name adds before (saying.Says said value) = value_with name adds before (said_of said value name)
value_after name adds before other = before

abbrev pub value_from : Text → Bool → Option Text → List (Saying Text) → Option Text
value_from name adds before [] = before
value_from name adds before (first ∷ rest) = value_from name adds (value_after name adds before first) rest

-- the value of an option that counts: the last, or what the values of its list add up to
unfoldable pub value_of : List (Saying Text) → Row Text → Option Text
value_of said row = value_from row.name (is_list row.kind) None said

-- the long form of an option
abbrev pub form_word : Text → Text
form_word name = codes "--" ++ name

-- an option of this name and kind with a value, written out: one that is off isn't
abbrev pub value_words : Text → OptionKind Text → Text → List Text
value_words name kind.Flag value = if bytes_eq value (codes "on") then form_word name ∷ [] else []
value_words name kind.Holds value = []
value_words name (kind.Opposite other) value = []
value_words name other value = (form_word name ++ codes "=" ++ value) ∷ []

abbrev pub row_words : Row Text → Option Text → List Text
row_words row None = []
row_words row (Some value) = value_words row.name row.kind value

-- a start, of what is one
abbrev pub start_words : Saying Text → List Text
start_words (saying.Starts word) = word ∷ []
start_words other = []

-- the starts
abbrev pub starts_in : List (Saying Text) → List Text
starts_in said = flat_map start_words said

-- the starts after the first
abbrev pub others_in : List (Saying Text) → List Text
others_in said = drop 1 (starts_in said)

-- the first start
abbrev pub first_start : List (Saying Text) → Option Text
first_start [] = None
first_start (saying.Starts word ∷ said) = Some word
first_start (saying.Says name value ∷ said) = first_start said
first_start (saying.Unread word ∷ said) = first_start said

-- a word, if there is one
abbrev pub if_any : Option Text → List Text
if_any None = []
if_any (Some word) = word ∷ []

-- what is said, written out with the first start alone
unfoldable pub written : List (Saying Text) → List Text
written said = flat_map (λ row. row_words row (value_of said row)) table ++ codes "--" ∷ if_any (first_start said)

-- the words written out
abbrev pub written_out : List Text → List Text
written_out words = written (sayings words)

-- the first word that isn't read
abbrev pub first_unread : List (Saying Text) → Option Text
first_unread [] = None
first_unread (saying.Unread word ∷ said) = Some word
first_unread (saying.Says name value ∷ said) = first_unread said
first_unread (saying.Starts word ∷ said) = first_unread said

-- both command lines are read, have the same starts, and say the same of each option last, whatever the order of their options is
pub record SayTheSame (words others : List Text) : Type 0 where
  pub read : first_unread (sayings words) ≡ None
  pub others_read : first_unread (sayings others) ≡ None
  pub starts : starts_in (sayings words) ≡ starts_in (sayings others)
  pub options : All (λ row. value_of (sayings words) row ≡ value_of (sayings others) row) table
