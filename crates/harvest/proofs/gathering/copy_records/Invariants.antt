-- The records so far and what is left are all of them.
use Rattle.std.proofs.Common.{◌≡◌, ◌++◌, length}
use Rattle.harvest.proofs.gathering.copy_records.Given as goal

abbrev pub invariant-records : goal.invariant-records
invariant-records l = l.copies.items ++ l.records ≡ l.initial.records

abbrev pub decreases-records : goal.decreases-records
decreases-records l = length l.records
