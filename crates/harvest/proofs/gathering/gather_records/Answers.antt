-- No address is recorded twice.
use Rattle.std.proofs.Common.{◌∙◌, sym, subst, List}
use Rattle.frontier_core.specs.Tables.{IsOnce}
use Rattle.frontier_core.specs.Readers.{Recorded}
use Rattle.harvest.specs.Entries.{recorded_addresses}
use Rattle.harvest.proofs.GatherLaws.{once_records}
use Rattle.harvest.proofs.gathering.gather_records.Goals as goal

pub sort_by_name-requires : goal.sort_by_name-requires
sort_by_name-requires c = subst (λ (records : List Recorded). IsOnce (recorded_addresses records)) (sym (c.in_ok-records.ensures ∙ c.records.ensures.value)) (once_records _ c.records.ensures.once)
