-- The scanner with what is left of the piece is the scanner before with the whole piece.
use Rattle.std.proofs.Common.{◌≡◌, false, length}
use Rattle.css_links.specs.Scanning.{front_of}
use Rattle.css_links.specs.References.{fed}
use Rattle.css_links.proofs.scanner.Scanner.feed.Given as goal

abbrev pub invariant-loop-left : goal.invariant-loop-left
invariant-loop-left l = record {
  working : l.self-inside.failed ≡ false;
  rest : fed (front_of l.self-inside.machine) l.left ≡ fed l.fn.self.front l.piece;
}

abbrev pub decreases-loop-left : goal.decreases-loop-left
decreases-loop-left l = length l.left
