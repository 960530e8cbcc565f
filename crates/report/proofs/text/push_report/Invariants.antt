-- The text has gained the lines of the rows so far.
use Rattle.std.proofs.Common.{◌≡◌, ◌++◌, string_bytes, take}
use Rattle.std.specs.List.{flat_map}
use Rattle.report.specs.Report.{line_text}
use Rattle.report.proofs.text.push_report.Given as goal

abbrev pub invariant-loop-row : goal.invariant-loop-row
invariant-loop-row l = string_bytes l.text ≡ string_bytes l.initial.text ++ flat_map line_text (take l.row-index l.rows)
