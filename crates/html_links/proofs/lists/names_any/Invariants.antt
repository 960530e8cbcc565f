use Rattle.std.proofs.Common.{◌≡◌, drop, map}
use Rattle.std.specs.List.{list_any}
use Rattle.html_links.specs.Rules.{names}
use Rattle.html_links.specs.inner.Rows.{named}
use Rattle.html_links.proofs.lists.names_any.Given as goal

abbrev pub invariant-loop-row : goal.invariant-loop-row
invariant-loop-row l = list_any (names l.name) (map named (drop l.row-index l.rows)) ≡ list_any (names l.name) (map named l.rows)
