-- Words that request something instead of a retrieval: the help, or name and version.
use Rattle.std.specs.Prelude.{Bool, true, false, [], ◌∷◌, Option, Some, None, bytes_eq, codes, nat_eq, option_and_then, if◌then◌else◌}
use Rattle.std.specs.List.{starts_with}
use Rattle.clap.specs.Walk.{Text}
use Rattle.clap.specs.declared.error.ErrorKind.{ErrorKind}
use Rattle.clap.specs.declared.error.ErrorKind.TheVariants as kind
use Rattle.options.specs.declared.asked.Wish.{Wish}
use Rattle.options.specs.declared.asked.Wish.TheVariants as wish
use Rattle.options.specs.declared.fault.LineFault.{LineFault}
use Rattle.options.specs.declared.fault.LineFault.TheVariants as fault
use Rattle.options.specs.declared.said.Letter.{Letter}
use Rattle.options.specs.declared.said.Letter.TheVariants as letter
use Rattle.options.specs.declared.said.Meaning.TheVariants as meaning
use Rattle.options.specs.Meant.{meant, without_dash}
use Rattle.options.specs.Said.{letter_in}
use Rattle.options.specs.Table.{table}

-- ---- a word that asks

-- what a long form requests
abbrev pub wish_of_form : Text → Option Wish
wish_of_form form =
    if bytes_eq form (codes "--help") then Some wish.Help else (if bytes_eq form (codes "--version") then Some wish.Version else None)

-- what the first of these letters requests
abbrev pub wish_of_letter : Text → Option Wish
wish_of_letter letters =
    if starts_with nat_eq letters (codes "h") then Some wish.Help
    else (if starts_with nat_eq letters (codes "V") then Some wish.Version else None)

-- an option of one letter is passed over, and what no option has may ask
abbrev pub wish_after : Text → Letter Text → Option Wish → Option Wish
wish_after letters (letter.Goes name value rest) more = more
wish_after letters (letter.Is meaning.Unknown) more = wish_of_letter letters
wish_after letters (letter.Is other) more = None

-- what the letters after a dash request
abbrev pub wish_in : Text → Option Wish
wish_in [] = None
wish_in (first ∷ rest) = wish_after (first ∷ rest) (letter_in (first ∷ rest) table) (wish_in rest)

abbrev pub wish_or : Option Wish → Text → Option Wish
wish_or None word = option_and_then wish_in (without_dash word)
wish_or (Some wish) word = Some wish

-- what a word requests that isn't read, if anything
unfoldable pub wish_of : Text → Option Wish
wish_of word = wish_or (wish_of_form (meant word)) word

-- ---- words that are refused

-- words that are refused, of whatever kind
abbrev pub words_refused : LineFault
words_refused = fault.Words kind.InvalidValue

-- the kind is that of words that ask
abbrev pub is_asking : ErrorKind → Bool
is_asking kind.DisplayHelp = true
is_asking kind.DisplayVersion = true
is_asking other = false

-- the words request something, and nothing is wrong with them
abbrev pub asks : LineFault → Bool
asks (fault.Words why) = is_asking why
asks other = false

-- the fault of words that request this
abbrev pub wish_fault : Wish → LineFault
wish_fault wish.Help = fault.Words kind.DisplayHelp
wish_fault wish.Version = fault.Words kind.DisplayVersion

abbrev pub refusal_by : Option Wish → LineFault
refusal_by None = words_refused
refusal_by (Some wish) = wish_fault wish

-- the fault of words of which this is the first that isn't read
abbrev pub refusal_of : Text → LineFault
refusal_of word = refusal_by (wish_of word)

-- the fault, except for the kind of refused words and the place in an expression; a request keeps its kind
abbrev pub without_kind : LineFault → LineFault
without_kind (fault.Words why) = if is_asking why then fault.Words why else words_refused
without_kind (fault.Expression at) = fault.Expression 0
without_kind other = other
