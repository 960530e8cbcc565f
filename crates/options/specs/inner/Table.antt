-- What proofs alone need beside `Table`.
use Rattle.std.specs.Borrow.{Bor}
use Rattle.clap.specs.Walk.{Text}
use Rattle.options.specs.declared.summary.Summary.{Summary}
use Rattle.options.specs.declared.table.Command.{Command}
use Rattle.options.specs.declared.table.Instead.{Instead}
use Rattle.options.specs.declared.table.OptionKind.{OptionKind}
use Rattle.options.specs.declared.table.Row.{Row}
use Rattle.options.specs.Table.{command_by, instead_by, kind_by, row_by, summary_by}

-- what follows an option, as the code has it
abbrev pub kind_in : OptionKind (Bor Text) → OptionKind Text
kind_in behind = kind_by (λ text. text.now) behind

-- an option, as the code has it
abbrev pub row_in : Row (Bor Text) → Row Text
row_in row = row_by (λ text. text.now) row

-- a command, as the code has it
abbrev pub command_in : Command (Bor Text) → Command Text
command_in command = command_by (λ text. text.now) command

-- what to do instead of an option, as the code has it
abbrev pub instead_in : Instead (Bor Text) → Instead Text
instead_in row = instead_by (λ text. text.now) row

-- what an option does, as the code has it
abbrev pub summary_in : Summary (Bor Text) → Summary Text
summary_in summary = summary_by (λ text. text.now) summary
