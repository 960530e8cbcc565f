-- The places are those in the records that were lent.
use Rattle.std.proofs.Common.{List, subst}
use Rattle.std.specs.Prelude.{All}
use Rattle.frontier_core.specs.Readers.{Recorded}
use Rattle.harvest.specs.Entries.{IsPlaceOf}
use Rattle.harvest.specs.declared.entry.HarvestEntry.{HarvestEntry}
use Rattle.harvest.proofs.gathering.gather_held.Goals as goal

pub returns-clause-places : goal.returns-clause-places
returns-clause-places c = subst (λ (all : List Recorded). All (λ (entry : HarvestEntry). IsPlaceOf all entry.address entry.answer) c.in_ok-entries.entries.items) c.as_slice.ensures.value c.in_ok-entries.ensures.places
