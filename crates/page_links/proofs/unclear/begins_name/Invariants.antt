-- What is left decides, with whether a letter or digit came.
use Rattle.std.proofs.Common.{◌≡◌, length, false}
use Rattle.page_links.specs.Unclear.{ends_name}
use Rattle.page_links.proofs.unclear.begins_name.Given as goal

abbrev pub invariant-loop-first : goal.invariant-loop-first
invariant-loop-first l = ends_name l.some l.rest ≡ ends_name false l.text

abbrev pub decreases-loop-first : goal.decreases-loop-first
decreases-loop-first l = length l.rest
