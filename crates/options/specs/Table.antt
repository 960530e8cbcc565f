-- The table of options, the forms of Wget's and of this program's own, what to do in place of Wget's, and the commands of wgetrc, with their texts
-- as lists.
use Rattle.std.specs.Prelude.{List, map}
use Rattle.clap.specs.Walk.{Text}
use Rattle.options.specs.declared.summary.Summary.{Summary}
use Rattle.options.specs.declared.summary.TheConstants.{SUMMARY}
use Rattle.options.specs.declared.table.Command.{Command}
use Rattle.options.specs.declared.table.Instead.{Instead}
use Rattle.options.specs.declared.table.OptionKind.{OptionKind}
use Rattle.options.specs.declared.table.OptionKind.TheVariants as kind
use Rattle.options.specs.declared.table.Row.{Row}
use Rattle.options.specs.declared.table.TheConstants.{COMMANDS, INSTEAD, OWN, TABLE, WGET}

-- what follows an option, with its texts read this way
abbrev pub kind_by : {T : Type 0} → (T → Text) → OptionKind T → OptionKind Text
kind_by read kind.Flag = kind.Flag
kind_by read kind.Holds = kind.Holds
kind_by read (kind.Opposite other) = kind.Opposite (read other)
kind_by read (kind.Value name) = kind.Value (read name)
kind_by read (kind.List name) = kind.List (read name)
kind_by read (kind.Usual name usual) = kind.Usual (read name) (read usual)
kind_by read (kind.Number most usual) = kind.Number most usual

-- an option, its texts read so
abbrev pub row_by : {T : Type 0} → (T → Text) → Row T → Row Text
row_by read row =
    record { short = read row.short; name = read row.name; kind = kind_by read row.kind; heading = read row.heading }

-- the options
unfoldable pub table : List (Row Text)
table = map (row_by (λ text. text.now)) TABLE

-- what an option does, its texts read so
abbrev pub summary_by : {T : Type 0} → (T → Text) → Summary T → Summary Text
summary_by read summary = record { name = read summary.name; says = read summary.says }

-- what the options do
unfoldable pub summaries : List (Summary Text)
summaries = map (summary_by (λ text. text.now)) SUMMARY

-- the forms of Wget's options
unfoldable pub wget : List Text
wget = map (λ form. form.now) WGET

-- what to do in place of an option, its texts read so
abbrev pub instead_by : {T : Type 0} → (T → Text) → Instead T → Instead Text
instead_by read row = record { form = read row.form; advice = read row.advice }

-- what to do in place of Wget's options
unfoldable pub instead : List (Instead Text)
instead = map (instead_by (λ text. text.now)) INSTEAD

-- the long forms of options that Wget doesn't have
unfoldable pub own : List Text
own = map (λ form. form.now) OWN

-- a command, its texts read so
abbrev pub command_by : {T : Type 0} → (T → Text) → Command T → Command Text
command_by read command = record { name = read command.name; option = read command.option }

-- the commands of wgetrc whose options are here
unfoldable pub commands : List (Command Text)
commands = map (command_by (λ text. text.now)) COMMANDS
