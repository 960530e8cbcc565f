-- The help: what the program is for, its usage, and a line for each option, in columns of 80 (GNU Wget manual, chapter Invoking).
use Rattle.std.specs.Prelude.{◌==◌, ◌++◌, ◌-◌, ℕ, List, [], ◌∷◌, Option, Some, None, bytes_eq, codes, length, replicate, if◌then◌else◌}
use Rattle.std.specs.Fmt.{decimal}
use Rattle.std.specs.List.{flat_map}
use Rattle.clap.specs.Walk.{Text}
use Rattle.options.specs.declared.help.TheConstants.{HEAD, FOOT}
use Rattle.options.specs.declared.summary.Summary.{Summary}
use Rattle.options.specs.declared.table.OptionKind.{OptionKind}
use Rattle.options.specs.declared.table.OptionKind.TheVariants as kind
use Rattle.options.specs.declared.table.Row.{Row}
use Rattle.options.specs.Table.{summaries, table}

-- a text filled up with spaces to a width
abbrev pub in_columns : ℕ → Text → Text
in_columns width text = text ++ replicate (width - length text) 32

-- the short form as it is shown
abbrev pub short_text : Text → Text
short_text short = if length short == 0 then [] else codes "  -" ++ short ++ codes ","

-- the name of an option's value
abbrev pub value_name : OptionKind Text → Option Text
value_name kind.Flag = None
value_name kind.Holds = None
value_name (kind.Opposite other) = None
value_name (kind.Value name) = Some name
value_name (kind.List name) = Some name
value_name (kind.Usual name usual) = Some name
value_name (kind.Number most usual) = Some (codes "N")

-- a value after its option
abbrev pub value_text : Option Text → Text
value_text None = []
value_text (Some name) = codes "=" ++ name

-- the forms of an option, and then its value
abbrev pub left_text : Row Text → Text
left_text row = in_columns 7 (short_text row.short) ++ codes "--" ++ row.name ++ value_text (value_name row.kind)

-- the default of an option, and its range
abbrev pub usual_text : OptionKind Text → Text
usual_text kind.Flag = []
usual_text kind.Holds = []
usual_text (kind.Opposite other) = []
usual_text (kind.Value name) = []
usual_text (kind.List name) = []
usual_text (kind.Usual name usual) = codes " (" ++ usual ++ codes ")"
usual_text (kind.Number most usual) = codes ", 1 to " ++ decimal most ++ codes " (" ++ decimal usual ++ codes ")"

-- what these say of the option of this name, if anything
abbrev pub says_of : Text → List (Summary Text) → Option Text
says_of name [] = None
says_of name (summary ∷ rest) = if bytes_eq summary.name name then Some summary.says else says_of name rest

-- the line of an option after its heading, with what is said of it; none if nothing is, of another option's short form
abbrev pub line_text : Row Text → Option Text → Text
line_text row None = []
line_text row (Some says) = row.heading ++ in_columns 35 (left_text row) ++ says ++ usual_text row.kind ++ codes "\n"

abbrev pub row_text : Row Text → Text
row_text row = line_text row (says_of row.name summaries)

-- the lines of options
abbrev pub rows_text : List (Row Text) → Text
rows_text rows = flat_map row_text rows

-- the help
unfoldable pub help_text : Text
help_text = HEAD.now ++ rows_text table ++ FOOT.now
