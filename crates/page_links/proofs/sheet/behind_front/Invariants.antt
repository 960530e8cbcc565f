-- What is left of the front is to be found in the rest of the text, and what follows both is the same.
use Rattle.std.proofs.Common.{◌≡◌, length, drop}
use Rattle.html_links.specs.Pieces.{begins, lower}
use Rattle.page_links.proofs.sheet.behind_front.Given as goal

abbrev pub invariant-loop-left : goal.invariant-loop-left
invariant-loop-left l = record {
  same : begins l.left (lower l.rest) ≡ begins l.front (lower l.text);
  behind : drop (length l.left) l.rest ≡ drop (length l.front) l.text;
}

abbrev pub decreases-loop-left : goal.decreases-loop-left
decreases-loop-left l = length l.left
