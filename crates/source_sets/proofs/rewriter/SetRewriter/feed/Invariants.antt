-- What was written with what is left of the text is what was written before with the whole text.
use Rattle.std.proofs.Common.{◌≡◌, length}
use Rattle.source_sets.specs.Rewriting.{rewrite_fed}
use Rattle.source_sets.specs.Reading.{rewrite_of}
use Rattle.source_sets.proofs.rewriter.SetRewriter.feed.Given as goal

abbrev pub invariant-loop-left : goal.invariant-loop-left
invariant-loop-left g l = rewrite_fed (g.C.Change.becomes l.change) (rewrite_of l.self) l.left ≡ rewrite_fed (g.C.Change.becomes l.change) (rewrite_of l.fn.self) l.text

abbrev pub decreases-loop-left : goal.decreases-loop-left
decreases-loop-left g l = length l.left
