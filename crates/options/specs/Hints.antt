-- What was likely meant by words that are refused.
use Rattle.std.specs.Prelude.{◌&&◌, ◌||◌, ◌==◌, ◌++◌, ℕ, Bool, true, false, not, List, [], ◌∷◌, Option, Some, None, Ok, Err, Result, bytes_eq, codes, decimal, length, nat_eq, nat_le, nat_lt, unwrap_or, if◌then◌else◌}
use Rattle.std.specs.List.{after_first, before_first, find, flat_map, list_any, starts_with}
use Rattle.std.specs.Option.{option_map_or}
use Rattle.std.specs.Str.{chars}
use Rattle.strsim.specs.Edits.{osa_table}
use Rattle.clap.specs.Walk.{Text}
use Rattle.clap.specs.declared.error.ErrorKind.{ErrorKind}
use Rattle.clap.specs.declared.error.ErrorKind.TheVariants as kind
use Rattle.address.specs.Address.{read_address, read_either}
use Rattle.address.specs.declared.fault.AddressFault.{AddressFault}
use Rattle.address.specs.declared.fault.AddressFault.TheVariants as refused
use Rattle.options.specs.declared.fault.LineFault.{LineFault}
use Rattle.options.specs.declared.fault.LineFault.TheVariants as line
use Rattle.options.specs.declared.table.Instead.{Instead}
use Rattle.options.specs.declared.table.Row.{Row}
use Rattle.options.specs.declared.said.Meaning.{Meaning}
use Rattle.options.specs.declared.said.Meaning.TheVariants as meaning
use Rattle.options.specs.Meant.{fronts, long_name, meant}
use Rattle.options.specs.Said.{named, sayings}
use Rattle.options.specs.Table.{instead, table, wget}
use Rattle.options.specs.Start.{typed}
use Rattle.options.specs.Written.{first_unread, starts_in, value_from}
use Rattle.requests.specs.Fields.{bad_line}

-- ---- forms of options

-- what is before an equals sign
abbrev pub form_of : Text → Text
form_of word = before_first (λ byte. byte == 61) word

-- the form means something, or waits for a value
abbrev pub is_known : Meaning Text → Bool
is_known (meaning.Means name value) = true
is_known (meaning.Waits name) = true
is_known meaning.Unknown = false

-- the form of an option of Wget; a short one may be followed by others, or by its value
abbrev pub is_form_of : Text → Text → Bool
is_form_of form option = bytes_eq form option || (nat_lt (length option) 4 && starts_with nat_eq form option)

-- ---- options that are near to a name

-- the edits from one text to another: a letter is added, left out, changed, or two change places (optimal string alignment)
abbrev pub edits : Text → Text → ℕ
edits a b = (osa_table (chars a) (chars b)).last_row (length (chars b))

-- the option's long form begins with this name, or is as many edits away from it at most
abbrev pub is_near : ℕ → Text → Row Text → Bool
is_near most name row =
    not (length name == 0 || bytes_eq row.name row.short) && (starts_with nat_eq row.name name || nat_le (edits name row.name) most)

-- the first option that is as near to the name
abbrev pub first_near : ℕ → Text → List (Row Text) → Option Text
first_near most name [] = None
first_near most name (row ∷ rows) = if is_near most name row then Some row.name else first_near most name rows

-- the first of these two that is there
abbrev pub either_of : Option Text → Option Text → Option Text
either_of None other = other
either_of (Some one) other = Some one

-- the first of the options that are nearest to the name, at most two edits away
abbrev pub nearest : Text → List (Row Text) → Option Text
nearest name rows = either_of (first_near 0 name rows) (either_of (first_near 1 name rows) (first_near 2 name rows))

-- ---- what is said of words

-- of a form that isn't known: what may have been meant by it
abbrev pub near_text : Text → Option Text → Text
near_text form None = codes ": " ++ form
near_text form (Some name) = codes ": " ++ form ++ codes " (did you mean --" ++ name ++ codes "?)"

-- of a long form that is no front
unfoldable pub name_hint : Text → Text → Text
name_hint form name = near_text form (nearest name table)

-- forms, each after a space
abbrev pub forms_text : List Text → Text
forms_text forms = flat_map (λ form. codes " " ++ form) forms

-- of a front of several forms
abbrev pub several_text : Text → List Text → Text
several_text form forms = codes ": " ++ form ++ codes " (the front of" ++ forms_text forms ++ codes ")"

-- of a long form that no option has, and of which these are whole forms
abbrev pub front_text : Text → Text → List Text → Text
front_text form name [] = name_hint form name
front_text form name (whole ∷ more) = several_text form (whole ∷ more)

abbrev pub front_hint : Text → Text → Text
front_hint form name = front_text form name (fronts form)

-- of a form that isn't one of Wget's alone: nothing, unless it is a long form that no option has
abbrev pub long_hint : Text → Option Text → Text
long_hint form None = []
long_hint form (Some name) = if length name == 0 then [] else front_hint form name

-- what to do in place of the first of these options that has the form
abbrev pub advice_in : Text → List (Instead Text) → Option Text
advice_in form [] = None
advice_in form (row ∷ rows) = if is_form_of form row.form then Some row.advice else advice_in form rows

-- of a form of Wget's, with what to do instead, if there is something
abbrev pub foreign_with : Text → Option Text → Text
foreign_with form None = codes ": " ++ form ++ codes " (an option of Wget that wgetr doesn't have)"
foreign_with form (Some advice) = codes ": " ++ form ++ codes " (an option of Wget that wgetr doesn't have: " ++ advice ++ codes ")"

-- of a form that means this one of Wget's
unfoldable pub foreign_text : Text → Text → Text
foreign_text form whole = foreign_with form (advice_in whole instead)

-- the form is the long form of an option, or of its opposite
unfoldable pub is_own : Text → Bool
is_own form = option_map_or (λ name. is_known (named name None table)) (long_name form) false

-- of a form: nothing if an option has it
unfoldable pub form_hint : Text → Text
form_hint form =
    if is_own (meant form) then [] else (if list_any (is_form_of (meant form)) wget then foreign_text form (meant form) else long_hint form (long_name form))

-- of the first word that isn't read
abbrev pub unread_hint : Option Text → Text
unread_hint None = []
unread_hint (Some word) = form_hint (form_of word)

-- of words
abbrev pub words_hint : List Text → Text
words_hint words = unread_hint (first_unread (sayings words))

-- ---- what is said of a start

-- the text begins with a scheme and two slashes
abbrev pub has_scheme : Text → Bool
has_scheme text = starts_with nat_eq (after_first (λ byte. byte == 58) text) (codes "//")

-- of an address that may have been meant
abbrev pub address_text : Result Text AddressFault → Text
address_text (Err why) = []
address_text (Ok address) = codes " (did you mean " ++ address ++ codes "?)"

-- of a start that is no address: it would be one after `http://`
abbrev pub scheme_hint : Text → Text
scheme_hint start = if has_scheme start then [] else address_text (read_address (codes "http://" ++ start))

-- it is no address
abbrev pub is_wrong : Result Text AddressFault → Bool
is_wrong (Err why) = true
is_wrong (Ok address) = false

-- a start that is no address, neither http nor https
abbrev pub is_no_start : Text → Bool
is_no_start start = is_wrong (read_either (typed start))

-- of the first start of words that is no address
abbrev pub start_hint : List Text → Text
start_hint words = scheme_hint (unwrap_or (find is_no_start (starts_in (sayings words))) [])

-- ---- what is said of fields

-- of a line that is no field
abbrev pub line_text : Option Text → Text
line_text None = []
line_text (Some line) = codes ": " ++ line

-- of lines with a NUL between them: which is the first that is no field
abbrev pub lines_hint : Text → Text
lines_hint lines = line_text (bad_line lines)

abbrev pub lines_hint_on : Option Text → Text
lines_hint_on None = []
lines_hint_on (Some lines) = lines_hint lines

-- of the lines of `--header` in these words
abbrev pub header_hint : List Text → Text
header_hint words = lines_hint_on (value_from (codes "header") true None (sayings words))

-- ---- what is said of expressions

-- the place at which one goes wrong: this many bytes before it are good
abbrev pub place_hint : ℕ → Text
place_hint at = codes ", at offset " ++ decimal at

-- ---- what is said of a fault

-- of words that are refused for this kind
abbrev pub kind_hint : ErrorKind → List Text → Text
kind_hint kind.UnknownArgument words = words_hint words
kind_hint kind.InvalidValue words = words_hint words
kind_hint other words = []

-- of words that are no order
abbrev pub hint_on : LineFault → List Text → Text
hint_on (line.Words why) words = kind_hint why words
hint_on (line.Start refused.NotUrl) words = start_hint words
hint_on (line.Start refused.NotHttp) words = start_hint words
hint_on line.Header words = header_hint words
hint_on (line.Expression at) words = place_hint at
hint_on other words = []
