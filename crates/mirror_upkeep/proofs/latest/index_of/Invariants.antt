-- The index of those that were taken, and the others in falling order.
use Rattle.std.proofs.Common.{length}
use Rattle.mirror_upkeep.specs.inner.Taking.{Taking}
use Rattle.mirror_upkeep.proofs.latest.index_of.Given as goal

abbrev pub invariant-entries : goal.invariant-entries
invariant-entries l = Taking l.initial.left.items l.left.items l.index l.is_whole l.last

abbrev pub decreases-entries : goal.decreases-entries
decreases-entries l = length l.left.items
