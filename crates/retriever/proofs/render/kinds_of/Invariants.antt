-- The kinds so far are those of the bodies so far.
use Rattle.std.proofs.Common.{◌≡◌, take}
use Rattle.retriever.specs.Keeping.{kinds_of}
use Rattle.retriever.proofs.render.kinds_of.Given as goal

abbrev pub invariant-loop-i : goal.invariant-loop-i
invariant-loop-i g l = l.kinds.items ≡ kinds_of g.B.HasKind.kind_of (take l.i l.harvest.bodies)
