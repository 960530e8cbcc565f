use Rattle.std.proofs.Common.{◌≡◌, ◌++◌, take}
use Rattle.html_links.specs.Pieces.{lower}
use Rattle.html_links.proofs.lexer.tags.push_lower.Given as goal

abbrev pub invariant-loop-byte : goal.invariant-loop-byte
invariant-loop-byte l = l.name.items ≡ l.fn.name.items ++ lower (take l.byte-index l.text)
