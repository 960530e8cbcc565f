-- What is left of both decides.
use Rattle.std.proofs.Common.{◌≡◌, length}
use Rattle.link_changes.specs.Leading.{begins_as}
use Rattle.link_changes.proofs.whole.begins_as.Given as goal

abbrev pub invariant-loop-expected : goal.invariant-loop-expected
invariant-loop-expected l = begins_as l.left l.rest ≡ begins_as l.front l.text

abbrev pub decreases-loop-expected : goal.decreases-loop-expected
decreases-loop-expected l = length l.left
