-- The entries so far say what is held so far.
use Rattle.std.proofs.Common.{◌≡◌, map, take}
use Rattle.std.specs.Prelude.{All}
use Rattle.harvest.specs.Entries.{said_by, IsPlaceOf}
use Rattle.harvest.specs.declared.entry.HarvestEntry.{HarvestEntry}
use Rattle.harvest.proofs.GatherLaws.{seen_lent}
use Rattle.harvest.proofs.gathering.entries_of.Given as goal

abbrev pub invariant-loop-address : goal.invariant-loop-address
invariant-loop-address l = record {
  said : map said_by l.entries.items ≡ map seen_lent (take l.address-index l.held);
  places : All (λ (entry : HarvestEntry). IsPlaceOf l.records entry.address entry.answer) l.entries.items;
}
