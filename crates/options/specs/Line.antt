-- The command line, as `clap` sees it: the rule of each option, and what the words match (GNU Wget manual, chapter Invoking).
use Rattle.std.specs.Prelude.{ℕ, List, [], ◌∷◌, ◌++◌, Option, Some, None, bytes_eq, codes, fold, map, pos, true, if◌then◌else◌}
use Rattle.clap.specs.declared.builder.ArgAction.TheVariants.{SetTrue}
use Rattle.clap.specs.declared.builder.ValueParser.TheVariants as value
use Rattle.clap.specs.Simple.{App, matches_of, new_app, new_rule, on_top, with_rule}
use Rattle.clap.specs.Walk.{Row as Found, Rule, Text}
use Rattle.clap.specs.Kinds.{Kinds}
use Rattle.clap.specs.Faults.{fault_of}
use Rattle.options.specs.declared.table.OptionKind.{OptionKind}
use Rattle.options.specs.declared.table.OptionKind.TheVariants as kind
use Rattle.options.specs.declared.table.Row.{Row}
use Rattle.options.specs.Table.{table}

-- the letter that is a short form; one of two letters is no letter
abbrev pub letter_of : Text → Option ℕ
letter_of [] = None
letter_of (letter ∷ []) = Some letter
letter_of (letter ∷ another ∷ rest) = None

-- the rule of a whole number from 1 to the most
abbrev pub number_rule : ℕ → Rule → Rule
number_rule most rule = record rule { parser = Some (value.Signed (pos 1) (pos most)) }

-- the rule with the option's value: a flag has none
abbrev pub with_kind : OptionKind Text → Rule → Rule
with_kind kind.Flag rule = record rule { action = Some SetTrue }
with_kind kind.Holds rule = record rule { action = Some SetTrue }
with_kind (kind.Opposite other) rule = record rule { action = Some SetTrue }
with_kind (kind.Value name) rule = rule
with_kind (kind.List name) rule = rule
with_kind (kind.Usual name usual) rule = rule
with_kind (kind.Number most usual) rule = number_rule most rule

-- the rule with a short form, if there is one
abbrev pub with_letter : Option ℕ → Rule → Rule
with_letter None rule = rule
with_letter (Some letter) rule = record rule { short = Some letter }

-- the rule with a long form, which is the name, unless that is the short form
abbrev pub with_long : Row Text → Rule → Rule
with_long row rule = if bytes_eq row.name row.short then rule else record rule { long = Some row.name }

-- the rule of an option
abbrev pub option_rule : Row Text → Rule
option_rule row = with_long row (with_letter (letter_of row.short) (with_kind row.kind (new_rule row.name)))

-- START
abbrev pub start_rule : Rule
start_rule = record (new_rule (codes "start")) { required = true }

-- the words come without the program's name, and one of them may request its version
abbrev pub no_options : App
no_options = on_top (λ s. record s { no_binary_name = true; has_version = true }) (new_app (codes "wgetr"))

-- the rules of the command line: of the options in the order of the table, and of START
unfoldable pub line_rules : List Rule
line_rules = map option_rule table ++ start_rule ∷ []

-- the command line
unfoldable pub line : App
line = fold with_rule no_options line_rules

-- what is found for each option
unfoldable pub rows : List Text → List Found
rows words = matches_of line words

-- why the words are refused: none if they are accepted
unfoldable pub refusals : List Text → Kinds
refusals words = fault_of line words
