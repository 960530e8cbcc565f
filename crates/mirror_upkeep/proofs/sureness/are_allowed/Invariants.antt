-- None of those so far is refused and there.
use Rattle.std.proofs.Common.{◌<◌, ℕ, IsTrue, get_or}
use Rattle.harvest.specs.declared.entry.HarvestEntry.{HarvestEntry}
use Rattle.mirror_index.specs.Indexes.{HasNone}
use Rattle.mirror_upkeep.proofs.sureness.are_allowed.Given as goal

abbrev pub invariant-loop-entry : goal.invariant-loop-entry
invariant-loop-entry l = (k : ℕ) (d : HarvestEntry) → k < l.entry-index → IsTrue (get_or l.entries k d).refused → HasNone l.earlier (get_or l.entries k d).address
