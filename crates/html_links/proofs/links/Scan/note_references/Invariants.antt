-- What was noted and what is left are all.
use Rattle.std.proofs.Common.{◌≡◌, ◌++◌, map}
use Rattle.html_links.specs.Links.{linked}
use Rattle.html_links.specs.declared.links.LinkKind.TheVariants as kind
use Rattle.html_links.specs.declared.links.LinkPlace.TheVariants as place
use Rattle.html_links.proofs.links.Scan.note_references.Given as goal

abbrev pub invariant-loop-reference : goal.invariant-loop-reference
invariant-loop-reference l = record {
  base : l.self.base ≡ l.fn.self.base;
  links : l.self.links.items ++ map (linked place.Sheet kind.Inline) l.reference-iterator.rest.items ≡ l.fn.self.links.items ++ map (linked place.Sheet kind.Inline) l.fn.found.items;
  nofollow : l.self.nofollow ≡ l.fn.self.nofollow;
}
