-- What was noted and what is left are all.
use Rattle.std.proofs.Common.{◌≡◌, ◌++◌, map}
use Rattle.html_links.specs.Links.{linked}
use Rattle.html_links.proofs.links.Scan.note_set.Given as goal

abbrev pub invariant-loop-url : goal.invariant-loop-url
invariant-loop-url l = record {
  base : l.self.base ≡ l.fn.self.base;
  links : l.self.links.items ++ map (linked l.place l.kind) l.url-iterator.rest.items ≡ l.fn.self.links.items ++ map (linked l.place l.kind) l.fn.urls.items;
  nofollow : l.self.nofollow ≡ l.fn.self.nofollow;
}
