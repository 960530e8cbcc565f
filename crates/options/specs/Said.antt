-- What words say: options by their names with their values, starts, and what isn't read (GNU Wget manual, chapters Invoking and Startup File).
use Rattle.std.specs.Prelude.{◌&&◌, ◌||◌, ◌==◌, ◌++◌, ◌-◌, ℕ, Bool, true, false, not, List, [], ◌∷◌, Option, Some, None, bytes_eq, codes, drop, length, map, take, if◌then◌else◌}
use Rattle.std.specs.Char.{is_ascii_whitespace, to_ascii_lowercase}
use Rattle.std.specs.List.{filter, prefix_len, suffix_len}
use Rattle.std.specs.Option.{option_eq, option_map_or}
use Rattle.clap.specs.Lexer.{name_and_value}
use Rattle.clap.specs.Walk.{Text}
use Rattle.options.specs.declared.said.Letter.{Letter}
use Rattle.options.specs.declared.said.Letter.TheVariants as letter
use Rattle.options.specs.declared.said.Meaning.{Meaning}
use Rattle.options.specs.declared.said.Meaning.TheVariants as meaning
use Rattle.options.specs.declared.said.Saying.{Saying}
use Rattle.options.specs.declared.said.Saying.TheVariants as saying
use Rattle.options.specs.declared.said.State.{State}
use Rattle.options.specs.declared.said.State.TheVariants as state
use Rattle.options.specs.declared.table.Command.{Command}
use Rattle.options.specs.declared.table.OptionKind.{OptionKind}
use Rattle.options.specs.declared.table.OptionKind.TheVariants as kind
use Rattle.options.specs.declared.table.Row.{Row}
use Rattle.options.specs.Meant.{long_name, meant, without_dash}
use Rattle.options.specs.Table.{commands, table}

-- the rest of a text that begins with a front
abbrev pub after_front : Text → Text → Option Text
after_front [] text = Some text
after_front (byte ∷ front) [] = None
after_front (byte ∷ front) (first ∷ rest) = if byte == first then after_front front rest else None

-- ---- options that are on or off

-- the same word, in letters of either case
abbrev pub is_word : Text → Text → Bool
is_word one other = bytes_eq (map to_ascii_lowercase one) (map to_ascii_lowercase other)

-- on or off
abbrev pub truth_of : Text → Option Bool
truth_of value =
    if is_word value (codes "on") || is_word value (codes "yes") || is_word value (codes "1") then Some true
    else (if is_word value (codes "off") || is_word value (codes "no") || is_word value (codes "0") then Some false else None)

-- an option without a value is on
abbrev pub truth : Option Text → Option Bool
truth None = Some true
truth (Some value) = truth_of value

abbrev pub on_off : Bool → Text
on_off true = codes "on"
on_off false = codes "off"

abbrev pub switched_to : Text → Bool → Option Bool → Meaning Text
switched_to name on None = meaning.Unknown
switched_to name on (Some said) = meaning.Means name (on_off (if on then said else not said))

-- the option of this name, or its opposite, with this value
abbrev pub switched : Text → Bool → Option Text → Meaning Text
switched name on value = switched_to name on (truth value)

-- what is so already is said, and nothing else
abbrev pub held : Meaning Text → Meaning Text
held (meaning.Means name value) = if bytes_eq value (codes "on") then meaning.Means name value else meaning.Unknown
held other = meaning.Unknown

-- ---- options by their forms

-- an option whose value is beside it, or comes with the next word
abbrev pub valued : Text → Option Text → Meaning Text
valued name None = meaning.Waits name
valued name (Some value) = meaning.Means name value

-- an option of this name and kind, or its opposite, with this value
abbrev pub meaning_of : Text → OptionKind Text → Bool → Option Text → Meaning Text
meaning_of name kind.Flag on value = switched name on value
meaning_of name kind.Holds on value = held (switched name on value)
meaning_of name (kind.Opposite other) on value = switched other (not on) value
meaning_of name other on value = valued name value

-- the option is on or off
abbrev pub is_switch : OptionKind Text → Bool
is_switch kind.Flag = true
is_switch kind.Holds = true
is_switch (kind.Opposite other) = true
is_switch other = false

-- the one name is `no-` and then the other one
abbrev pub is_no : Text → Text → Bool
is_no one other = option_eq bytes_eq (after_front (codes "no-") one) (Some other)

-- whether the name is that of the option or of its opposite, if it is one of these
abbrev pub sense : Text → Row Text → Option Bool
sense name row =
    if bytes_eq row.name row.short then None
    else (if bytes_eq row.name name then Some true
    else (if is_switch row.kind && (is_no name row.name || is_no row.name name) then Some false else None))

abbrev pub named_by : Row Text → Option Text → Option Bool → Meaning Text → Meaning Text
named_by row value None other = other
named_by row value (Some on) other = meaning_of row.name row.kind on value

-- the first option of this name, or its opposite, with this value
abbrev pub named : Text → Option Text → List (Row Text) → Meaning Text
named name value [] = meaning.Unknown
named name value (row ∷ rows) = named_by row value (sense name row) (named name value rows)

-- a long form, or a front of one, with this value
unfoldable pub long_meaning : Text → Option Text → Meaning Text
long_meaning form value = option_map_or (λ name. named name value table) (long_name (meant form)) meaning.Unknown

-- the letter makes the option's short form with an `n` before it
abbrev pub is_negative : Text → Row Text → Bool
is_negative text row = not (length text == 0) && option_eq bytes_eq (after_front (codes "n") row.short) (Some text)

-- what is after `-n`: one letter, of an option of two
abbrev pub negative : Text → List (Row Text) → Meaning Text
negative text [] = meaning.Unknown
negative text (row ∷ rows) = if is_negative text row then meaning_of row.name row.kind true None else negative text rows

-- ---- commands of wgetrc

-- the text without white space at its ends
abbrev pub without_white : Text → Text
without_white text = take (length text - suffix_len is_ascii_whitespace text) text

abbrev pub trimmed : Text → Text
trimmed text = without_white (drop (prefix_len is_ascii_whitespace text) text)

-- `-` and `_` don't count in the name of a command
abbrev pub counts : ℕ → Bool
counts byte = not (byte == 45 || byte == 95)

-- the name of a command, in small letters
abbrev pub plain : Text → Text
plain key = map to_ascii_lowercase (filter counts key)

-- a command says what the long form of its option says
abbrev pub commanded : Text → Text → List (Command Text) → Meaning Text
commanded key value [] = meaning.Unknown
commanded key value (command ∷ more) =
    if bytes_eq command.name key then named command.option (Some value) table else commanded key value more

abbrev pub command_by : Text → Option Text → Meaning Text
command_by key None = meaning.Unknown
command_by key (Some value) = commanded (plain (trimmed key)) (trimmed value) commands

-- a command with its value
unfoldable pub command_meaning : Text → Meaning Text
command_meaning text = command_by (name_and_value text).0 (name_and_value text).1

-- an option of this name with its value: a command and the letter after `-n` are other options
unfoldable pub value_meaning : Text → Text → Meaning Text
value_meaning name value =
    if bytes_eq name (codes "execute") then command_meaning value
    else (if bytes_eq name (codes "n") then negative value table else meaning.Means name value)

abbrev pub settled : Meaning Text → Meaning Text
settled (meaning.Means name value) = value_meaning name value
settled other = other

-- ---- words

-- what the word says by this meaning
abbrev pub saying_of : Text → Meaning Text → Saying Text
saying_of word (meaning.Means name value) = saying.Says name value
saying_of word other = saying.Unread word

-- what a word says, and how the next one is read
pub record Hearing : Type 0 where
  pub said : List (Saying Text)
  pub state : State Text

-- the word says this and nothing else, if it doesn't wait for the next
abbrev pub heard_as : Text → Meaning Text → Hearing
heard_as word (meaning.Waits name) = record { said = []; state = state.Waits name }
heard_as word other = record { said = saying_of word (settled other) ∷ []; state = state.Free }

-- the rest of a word that is a value, if anything
abbrev pub beside : Text → Option Text
beside rest = if length rest == 0 then None else Some rest

-- the letter of an option that is on or off means this, and the word goes on
abbrev pub letter_with : Text → Meaning Text → Letter Text
letter_with rest (meaning.Means name value) = letter.Goes name value rest
letter_with rest other = letter.Is other

abbrev pub letter_by : Row Text → Text → Letter Text
letter_by row rest =
    if is_switch row.kind then letter_with rest (meaning_of row.name row.kind true None) else letter.Is (valued row.name (beside rest))

abbrev pub letter_or : Row Text → Option Text → Letter Text → Letter Text
letter_or row None other = other
letter_or row (Some rest) other = letter_by row rest

-- the first option whose letter the letters begin with
abbrev pub letter_in : Text → List (Row Text) → Letter Text
letter_in letters [] = letter.Is meaning.Unknown
letter_in letters (row ∷ rows) =
    if length row.short == 1 then letter_or row (after_front row.short letters) (letter_in letters rows) else letter_in letters rows

-- the option is on or off, and the word goes on; or the rest of the word is its value
abbrev pub heard_letter : Text → Letter Text → Hearing → Hearing
heard_letter word (letter.Goes name value rest) more = record more { said = saying.Says name value ∷ more.said }
heard_letter word (letter.Is meaning) more = heard_as word meaning

-- the letters after a dash, in this word
abbrev pub heard_letters : Text → Text → Hearing
heard_letters word [] = record { said = []; state = state.Free }
heard_letters word (first ∷ rest) = heard_letter word (letter_in (first ∷ rest) table) (heard_letters word rest)

-- a word that is no long form: letters after a dash, or a start
abbrev pub heard_short : Text → Option Text → Hearing
heard_short word None = record { said = saying.Starts word ∷ []; state = state.Free }
heard_short word (Some letters) =
    if length letters == 0 then record { said = saying.Starts word ∷ []; state = state.Free } else heard_letters word letters

abbrev pub heard_by : Text → Option Text → Hearing
heard_by word None = heard_short word (without_dash word)
heard_by word (Some name) = heard_as word (long_meaning (name_and_value word).0 (name_and_value word).1)

-- a word if no value is expected and the options haven't ended
unfoldable pub heard : Text → Hearing
heard word = heard_by word (long_name word)

-- a word, read as the words before it require: `--` ends the options
abbrev pub heard_in : State Text → Text → Hearing
heard_in state.Ended word = record { said = saying.Starts word ∷ []; state = state.Ended }
heard_in (state.Waits name) word = record { said = saying_of word (value_meaning name word) ∷ []; state = state.Free }
heard_in state.Free word = if bytes_eq word (codes "--") then record { said = []; state = state.Ended } else heard word

-- what the end of the words says: an option without its value isn't read
abbrev pub at_end : State Text → List (Saying Text)
at_end (state.Waits name) = saying.Unread name ∷ []
at_end other = []

-- what words say, one after another
abbrev pub said_from : State Text → List Text → List (Saying Text)
said_from now [] = at_end now
said_from now (word ∷ words) = (heard_in now word).said ++ said_from (heard_in now word).state words

-- what the words of a command line say
unfoldable pub sayings : List Text → List (Saying Text)
sayings words = said_from state.Free words
