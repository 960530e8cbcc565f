use Rattle.std.proofs.Common.{◌≡◌, length}
use denote.Text.{Utf8}
use denote.Shadow.{shadow}
use Rattle.follow_filters.specs.Lists.{read_list}
use Rattle.follow_filters.proofs.ClassLemmas.{behind}
use Rattle.follow_filters.proofs.elements.Elements.read.Given as goal

abbrev pub invariant-loop-first : goal.invariant-loop-first
invariant-loop-first g l = shadow (Utf8 l.rest) × (behind l.items.items (read_list g.T.Element.read_of l.rest) ≡ read_list g.T.Element.read_of l.list)

abbrev pub decreases-loop-first : goal.decreases-loop-first
decreases-loop-first g l = length l.rest
