use Rattle.std.proofs.Common.{◌≡◌, length}
use Rattle.html_links.specs.Rules.{is_relative}
use Rattle.html_links.proofs.relative.is_relative.Given as goal

abbrev pub invariant-loop-left : goal.invariant-loop-left
invariant-loop-left l = is_relative l.left ≡ is_relative l.text

abbrev pub decreases-loop-left : goal.decreases-loop-left
decreases-loop-left l = length l.left
