use Rattle.std.proofs.Common.{◌≡◌, ◌+◌, length}
use Rattle.workers.proofs.comparison.are_no_more.Given as goal

-- each record that was met left one note less
abbrev pub invariant-records : goal.invariant-records
invariant-records g l = length l.initial.records + l.left ≡ length l.notes + length l.records

abbrev pub decreases-records : goal.decreases-records
decreases-records g l = length l.records
