use Rattle.std.proofs.Common.{length, List, ℕ}
use Rattle.std.specs.Prelude.{Contains}
use Rattle.harvest.specs.Entries.{recorded_addresses}
use Rattle.workers.specs.inner.Notes.{addresses}
use Rattle.workers.proofs.comparison.records_are_noted.Given as goal

-- if what is left was noted, all was; and what is left is some of it
abbrev pub invariant-records : goal.invariant-records
invariant-records g l = record {
  all : ((u : List ℕ) → Contains (recorded_addresses l.records) u → Contains (addresses l.notes) u)
      → (u : List ℕ) → Contains (recorded_addresses l.initial.records) u → Contains (addresses l.notes) u;
  left : (u : List ℕ) → Contains (recorded_addresses l.records) u → Contains (recorded_addresses l.initial.records) u;
}

abbrev pub decreases-records : goal.decreases-records
decreases-records g l = length l.records
