-- What is left decides.
use Rattle.std.proofs.Common.{◌≡◌, length}
use Rattle.page_links.specs.Unclear.{has_reference}
use Rattle.page_links.proofs.unclear.has_reference.Given as goal

abbrev pub invariant-loop-first : goal.invariant-loop-first
invariant-loop-first l = has_reference l.rest ≡ has_reference l.text

abbrev pub decreases-loop-first : goal.decreases-loop-first
decreases-loop-first l = length l.rest
