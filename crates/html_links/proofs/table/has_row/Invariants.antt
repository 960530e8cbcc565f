use Rattle.std.proofs.Common.{◌≡◌, drop, map}
use Rattle.std.specs.Str.{bytes_eq}
use Rattle.std.specs.List.{list_any}
use Rattle.html_links.specs.inner.Rows.{named}
use Rattle.html_links.proofs.table.has_row.Given as goal

abbrev pub invariant-loop-row : goal.invariant-loop-row
invariant-loop-row l = list_any (λ row. bytes_eq l.name row.element) (map named (drop l.row-index l.rows)) ≡ list_any (λ row. bytes_eq l.name row.element) (map named l.rows)
