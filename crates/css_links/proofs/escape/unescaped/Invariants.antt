-- What was read with what is left says what the whole says.
use Rattle.std.proofs.Common.{◌≡◌, [], length}
use Rattle.css_links.specs.Escapes.{says, read}
use Rattle.css_links.specs.declared.escape.Reading.TheVariants.{Plain}
use Rattle.css_links.proofs.escape.unescaped.Given as goal

abbrev pub invariant-loop-left : goal.invariant-loop-left
invariant-loop-left l = says (read l.text.items l.reading) l.left ≡ says (read [] Plain) l.raw

abbrev pub decreases-loop-left : goal.decreases-loop-left
decreases-loop-left l = length l.left
