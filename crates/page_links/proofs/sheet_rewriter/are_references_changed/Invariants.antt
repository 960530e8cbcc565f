-- If what is left of both are the same references, changed, all are.
use Rattle.std.proofs.Common.{length}
use Rattle.html_links.specs.declared.awaiting.ValueForm.TheVariants.{Sheet}
use Rattle.page_links.specs.Rewriting.{AreReferencesChanged}
use Rattle.page_links.proofs.sheet_rewriter.are_references_changed.Given as goal

abbrev pub invariant-loop-left : goal.invariant-loop-left
invariant-loop-left g l = AreReferencesChanged (g.P.PageChange.becomes l.changes Sheet) (g.P.PageChange.known l.changes Sheet) l.left l.others → AreReferencesChanged (g.P.PageChange.becomes l.changes Sheet) (g.P.PageChange.known l.changes Sheet) l.old l.new

abbrev pub decreases-loop-left : goal.decreases-loop-left
decreases-loop-left g l = length l.left
