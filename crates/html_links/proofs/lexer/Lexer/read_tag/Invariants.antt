-- What is left gives what the whole text gives: no tag has ended yet.
use Rattle.std.proofs.Common.{◌≡◌, length}
use Rattle.html_links.specs.Lexing.{remaining}
use Rattle.html_links.proofs.lexer.Lexer.read_tag.Given as goal

abbrev pub invariant-loop-left : goal.invariant-loop-left
invariant-loop-left l = remaining l.self l.left ≡ remaining l.fn.self l.text

abbrev pub decreases-loop-left : goal.decreases-loop-left
decreases-loop-left l = length l.left
