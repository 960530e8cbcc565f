-- What was written, with what is left of the page, is the page anew.
use Rattle.std.proofs.Common.{length}
use Rattle.html_links.specs.Scanning.{StandsFor}
use Rattle.html_links.specs.declared.context.Syntax.{Syntax}
use Rattle.page_links.specs.Rewriting.{IsAt}
use Rattle.page_links.proofs.writer.Writer.write.Given as goal

abbrev pub invariant-loop-left : goal.invariant-loop-left
invariant-loop-left g l = (syntax : Syntax) → StandsFor syntax l.fn.self.scanner l.fn.self.out.items → IsAt (g.P.PageChange.becomes l.changes) syntax l.page l.self.scanner l.self.out.items l.left

abbrev pub decreases-loop-left : goal.decreases-loop-left
decreases-loop-left g l = length l.left
