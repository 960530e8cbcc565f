use Rattle.std.proofs.Common.{◌≡◌, length}
use Rattle.follow_filters.specs.Classes.{ranges_of}
use Rattle.follow_filters.proofs.ClassLemmas.{behind}
use Rattle.follow_filters.proofs.class.read_ranges.Given as goal

abbrev pub invariant-loop-range : goal.invariant-loop-range
invariant-loop-range l = behind l.ranges.items (ranges_of l.rest) ≡ ranges_of l.items

abbrev pub decreases-loop-range : goal.decreases-loop-range
decreases-loop-range l = length l.rest
