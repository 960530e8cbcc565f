-- The way is the same below what was passed.
use Rattle.std.proofs.Common.{◌≡◌, length}
use Rattle.local_links.specs.inner.Climbs.{goes_from}
use Rattle.local_links.proofs.writing.apart.Given as goal

abbrev pub invariant-loop-inner : goal.invariant-loop-inner
invariant-loop-inner l = goes_from l.fn.from l.fn.to ≡ goes_from l.above l.below

abbrev pub decreases-loop-inner : goal.decreases-loop-inner
decreases-loop-inner l = length l.above
