-- If what is left of both is the same, both are.
use Rattle.std.proofs.Common.{◌≡◌, length}
use Rattle.mirror_upkeep.proofs.sameness.is_same.Given as goal

abbrev pub invariant-entries : goal.invariant-entries
invariant-entries l = l.rest ≡ l.left → l.one ≡ l.other

abbrev pub decreases-entries : goal.decreases-entries
decreases-entries l = length l.rest
