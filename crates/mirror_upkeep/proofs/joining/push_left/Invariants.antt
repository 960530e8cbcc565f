-- What was added, and what is left of the rest.
use Rattle.std.proofs.Common.{◌≡◌, ◌++◌, length}
use Rattle.mirror_upkeep.specs.Joined.{left_of}
use Rattle.mirror_upkeep.proofs.joining.push_left.Given as goal

abbrev pub invariant-entries : goal.invariant-entries
invariant-entries l = l.all.items ++ left_of l.rest l.pages ≡ l.fn.all.items ++ left_of l.earlier l.pages

abbrev pub decreases-entries : goal.decreases-entries
decreases-entries l = length l.rest
