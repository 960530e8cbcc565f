-- What was put down, with what is left, is the whole.
use Rattle.std.proofs.Common.{◌≡◌, ◌++◌, length}
use Rattle.css_links.specs.Rewriting.{written}
use Rattle.css_links.proofs.rewriter.push_written.Given as goal

abbrev pub invariant-loop-left : goal.invariant-loop-left
invariant-loop-left l = l.out.items ++ written l.left ≡ l.fn.out.items ++ written l.text

abbrev pub decreases-loop-left : goal.decreases-loop-left
decreases-loop-left l = length l.left
