use Rattle.std.proofs.Common.{◌≡◌, drop}
use Rattle.std.specs.List.{list_any}
use Rattle.html_links.specs.Asked.{is_styling}
use Rattle.html_links.proofs.tag.has_styling.Given as goal

abbrev pub invariant-loop-attribute : goal.invariant-loop-attribute
invariant-loop-attribute l = list_any (λ a. is_styling a.name) (drop l.attribute-index l.attributes) ≡ list_any (λ a. is_styling a.name) l.attributes
