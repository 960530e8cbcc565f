-- What is left of both are the same links, changed, if all are, and the other way round.
use Rattle.std.proofs.Common.{length}
use Rattle.page_links.specs.Rewriting.{AreLinksChanged}
use Rattle.page_links.proofs.comparing.are_links_changed.Given as goal

abbrev pub invariant-loop-left : goal.invariant-loop-left
invariant-loop-left g l = record {
  all : AreLinksChanged (g.P.PageChange.becomes l.changes) (g.P.PageChange.known l.changes) l.left l.others → AreLinksChanged (g.P.PageChange.becomes l.changes) (g.P.PageChange.known l.changes) l.old l.new;
  left : AreLinksChanged (g.P.PageChange.becomes l.changes) (g.P.PageChange.known l.changes) l.old l.new → AreLinksChanged (g.P.PageChange.becomes l.changes) (g.P.PageChange.known l.changes) l.left l.others;
}

abbrev pub decreases-loop-left : goal.decreases-loop-left
decreases-loop-left g l = length l.left
