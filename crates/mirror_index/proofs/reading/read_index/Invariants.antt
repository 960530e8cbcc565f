-- The text begins with what was read.
use Rattle.std.proofs.Common.{length}
use Rattle.mirror_index.specs.inner.Steps.{IsRead}
use Rattle.mirror_index.proofs.reading.read_index.Given as goal

abbrev pub invariant-lines : goal.invariant-lines
invariant-lines l = IsRead l.bytes l.index l.rest

abbrev pub decreases-lines : goal.decreases-lines
decreases-lines l = length l.rest
