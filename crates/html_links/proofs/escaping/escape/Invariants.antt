-- What was put down, with what is left, is the whole.
use Rattle.std.proofs.Common.{◌≡◌, ◌++◌, length}
use Rattle.html_links.specs.Escaping.{escaped}
use Rattle.html_links.proofs.escaping.escape.Given as goal

abbrev pub invariant-loop-left : goal.invariant-loop-left
invariant-loop-left l = l.value.items ++ escaped l.left ≡ escaped l.text

abbrev pub decreases-loop-left : goal.decreases-loop-left
decreases-loop-left l = length l.left
