-- The starts so far.
use Rattle.std.proofs.Common.{take}
use Rattle.follow_filters.specs.inner.Starts.{Finds}
use Rattle.follow_filters.proofs.starts.set_of.Given as goal

abbrev pub invariant-loop-start : goal.invariant-loop-start
invariant-loop-start l = Finds (take l.start-index l.list) l.set
