use Rattle.std.proofs.Common.{◌≡◌, drop, map}
use Rattle.html_links.specs.Asked.{asked_name}
use Rattle.html_links.specs.Links.{link_table}
use Rattle.html_links.specs.Awaiting.{row_of}
use Rattle.html_links.specs.inner.Rows.{named}
use Rattle.html_links.proofs.awaiting.row_form.Given as goal

abbrev pub invariant-loop-row : goal.invariant-loop-row
invariant-loop-row l = row_of l.element (asked_name l.attribute) (map named (drop l.row-index l.rows)) ≡ row_of l.element (asked_name l.attribute) link_table
