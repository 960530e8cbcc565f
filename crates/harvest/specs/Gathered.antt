-- How what a harvest keeps belongs together.
use Rattle.std.specs.Prelude.{◌≡◌, ◌↔◌, List, [], Some, map, length, All, Contains, IsPermutation, MatchOption}
use Rattle.std.specs.List.{filter_map}
use Rattle.frontier_core.specs.Tables.{Text}
use Rattle.frontier_core.specs.Machine.{answers}
use Rattle.frontier_core.specs.Readers.{record_of, ruled_of}
use Rattle.frontier_core.specs.Traced.{Traced}
use Rattle.harvest.specs.declared.page.KeptPage.{KeptPage}
use Rattle.harvest.specs.Entries.{seen_in, said_by, recorded_addresses, ruled_origins, IsPlaceOf}
use Rattle.harvest.specs.Harvests.{Harvested}
use Rattle.address.specs.AddressOrder.{IsAscending}
use Rattle.harvest.specs.Pages.{IsKept}

-- the entries are in address order, and say what the state holds; each names the place of its outcome
pub record AreEntries {B : Type 0} (h : Harvested B) : Type 0 where
  pub ascending : IsAscending (map (λ entry. entry.address) h.entries)
  pub same : IsPermutation (seen_in h.state) (map said_by h.entries)
  pub places : All (λ entry. IsPlaceOf h.records entry.address entry.answer) h.entries

-- the records are in address order, and are those of the state
pub record AreRecords {B : Type 0} (h : Harvested B) : Type 0 where
  pub ascending : IsAscending (recorded_addresses h.records)
  pub same : IsPermutation (filter_map record_of h.state.entries) h.records

-- the known rules are in the order of their origins, and are those of the state
pub record AreRules {B : Type 0} (h : Harvested B) : Type 0 where
  pub ascending : IsAscending (ruled_origins h.rules)
  pub same : IsPermutation (filter_map ruled_of h.state.origins) h.rules

-- the kept pages are in address order, and are those that the plan keeps of the record; each has a body
pub record ArePages {B : Type 0} (h : Harvested B) : Type 0 where
  pub ascending : IsAscending h.kept
  pub paired : length h.bodies ≡ length h.kept
  pub kept : MatchOption h.plan (h.kept ≡ []) (λ plan. (u : Text) → Contains h.kept u ↔ IsKept plan (answers h.state) u)

-- the harvest of a frontier and of these pages, which are in it in address order
pub record IsHarvestOf {B : Type 0} (frontier : Traced) (pages : List (KeptPage B)) (h : Harvested B) : Type 0 where
  pub plan : h.plan ≡ Some frontier.plan
  pub state : h.state ≡ frontier.state
  pub trace : h.trace ≡ frontier.trace
  pub entries : AreEntries h
  pub sorted : (sorted : List (KeptPage B)) × IsPermutation pages sorted × (h.kept ≡ map (λ page. page.address) sorted) × (h.bodies ≡ map (λ page. page.body) sorted)
