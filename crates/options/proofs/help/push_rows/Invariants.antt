-- The text has gained the lines of the rows so far.
use Rattle.std.proofs.Common.{◌≡◌, ◌++◌, string_bytes, map, take}
use Rattle.options.specs.Help.{rows_text}
use Rattle.options.specs.inner.Table.{row_in}
use Rattle.options.proofs.help.push_rows.Given as goal

abbrev pub invariant-loop-row : goal.invariant-loop-row
invariant-loop-row l = string_bytes l.text ≡ string_bytes l.initial.text ++ rows_text (map row_in (take l.row-index l.rows))
