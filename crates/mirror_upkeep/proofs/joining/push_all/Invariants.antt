-- What was added, and the rest.
use Rattle.std.proofs.Common.{◌≡◌, ◌++◌, length}
use Rattle.mirror_upkeep.proofs.joining.push_all.Given as goal

abbrev pub invariant-entries : goal.invariant-entries
invariant-entries l = l.all.items ++ l.rest ≡ l.fn.all.items ++ l.entries

abbrev pub decreases-entries : goal.decreases-entries
decreases-entries l = length l.rest
