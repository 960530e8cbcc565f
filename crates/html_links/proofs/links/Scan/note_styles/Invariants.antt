-- The links by the names so far were noted.
use Rattle.std.proofs.Common.{◌≡◌, ◌++◌, take, map}
use Rattle.std.specs.List.{flat_map}
use Rattle.html_links.specs.Asked.{asked_name}
use Rattle.html_links.specs.Links.{style_links}
use Rattle.html_links.proofs.links.Scan.note_styles.Given as goal

abbrev pub invariant-loop-name : goal.invariant-loop-name
invariant-loop-name l = record {
  base : l.self.base ≡ l.fn.self.base;
  links : l.self.links.items ≡ l.fn.self.links.items ++ flat_map (style_links l.attributes) (map asked_name (take l.name-index l.names));
  nofollow : l.self.nofollow ≡ l.fn.self.nofollow;
}
