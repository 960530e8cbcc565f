-- The rows so far are those of the entries so far.
use Rattle.std.proofs.Common.{◌≡◌, map, take}
use Rattle.std.specs.List.{filter_map}
use Rattle.std.specs.String.{string_bytes}
use Rattle.report.specs.Entries.{line_at}
use Rattle.report.proofs.rows.rows_of.Given as goal

abbrev pub invariant-loop-entry : goal.invariant-loop-entry
invariant-loop-entry g l = l.rows.items ≡ filter_map (line_at l.harvest (map string_bytes l.names)) (take l.entry-index l.entry-items)
