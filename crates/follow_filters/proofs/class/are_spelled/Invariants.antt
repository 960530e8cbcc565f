use Rattle.std.proofs.Common.{◌≡◌, is_some, length}
use Rattle.follow_filters.specs.Classes.{ranges_of}
use Rattle.follow_filters.proofs.class.are_spelled.Given as goal

abbrev pub invariant-loop-range : goal.invariant-loop-range
invariant-loop-range l = is_some (ranges_of l.rest) ≡ is_some (ranges_of l.items)

abbrev pub decreases-loop-range : goal.decreases-loop-range
decreases-loop-range l = length l.rest
