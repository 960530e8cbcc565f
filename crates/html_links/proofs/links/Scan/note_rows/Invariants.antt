-- The links by the rows so far were noted.
use Rattle.std.proofs.Common.{◌≡◌, ◌++◌, take, map}
use Rattle.std.specs.List.{flat_map}
use Rattle.html_links.specs.Links.{row_links}
use Rattle.html_links.specs.inner.Rows.{named}
use Rattle.html_links.proofs.links.Scan.note_rows.Given as goal

abbrev pub invariant-loop-row : goal.invariant-loop-row
invariant-loop-row l = record {
  base : l.self.base ≡ l.fn.self.base;
  links : l.self.links.items ≡ l.fn.self.links.items ++ flat_map (row_links (record { name = l.name; attributes = l.attributes })) (map named (take l.row-index l.rows));
  nofollow : l.self.nofollow ≡ l.fn.self.nofollow;
}
