-- The scanner with what is left of the piece is the scanner before with the whole piece.
use Rattle.std.proofs.Common.{◌≡◌, false, ℕ, List, ◌++◌, ◌≤◌, length}
use Rattle.html_links.specs.Scanning.{result_with}
use Rattle.html_links.proofs.scanner.HtmlScanner.feed.Given as goal

abbrev pub invariant-loop-left : goal.invariant-loop-left
invariant-loop-left l = record {
  working : l.self.failed ≡ false;
  shorter : length l.left ≤ length l.piece;
  rest : (rest : List ℕ) → result_with l.self (l.left ++ rest) ≡ result_with l.fn.self (l.piece ++ rest);
}

abbrev pub decreases-loop-left : goal.decreases-loop-left
decreases-loop-left l = length l.left
