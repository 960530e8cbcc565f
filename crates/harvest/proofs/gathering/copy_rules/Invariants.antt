-- The rules so far and what is left are all of them.
use Rattle.std.proofs.Common.{◌≡◌, ◌++◌, length}
use Rattle.harvest.proofs.gathering.copy_rules.Given as goal

abbrev pub invariant-rules : goal.invariant-rules
invariant-rules l = l.copies.items ++ l.rules ≡ l.initial.rules

abbrev pub decreases-rules : goal.decreases-rules
decreases-rules l = length l.rules
