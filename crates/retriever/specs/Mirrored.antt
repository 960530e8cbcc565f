-- What the files of a run have in which links lead from file to file.
use Rattle.std.specs.Prelude.{◌≡◌, ◌↔◌, ℕ, Bool, true, false, List, [], Some, Contains, slice_index_or}
use Rattle.fetcher.specs.declared.outcome.Outcome.{Outcome}
use Rattle.frontier_core.specs.Readers.{Recorded}
use Rattle.frontier_core.specs.Routes.{Answers}
use Rattle.frontier_core.specs.Tables.{Text}
use Rattle.harvest.specs.Entries.{recorded_addresses}
use Rattle.harvest.specs.Harvests.{Harvested}
use Rattle.address.specs.AddressOrder.{IsAscending}
use Rattle.local_tree.specs.Changes.{Becomes, IsShelvedAs, IsHalfShelvedAs}
use Rattle.local_tree.specs.Folders.{Holding}
use Rattle.local_tree.specs.Shelves.{IsShelved, IsHalfShelved}
use Rattle.report.specs.Named.{named_pages, names_in}
use Rattle.report.specs.Report.{Line}
use Rattle.retriever.specs.Keeping.{Keeping}
use Rattle.run_mirror.specs.Anew.{IsBodyAnew}
use Rattle.run_mirror.specs.Mirrors.{Kept}

-- the bytes that may be in place of the body of the kept page at a place: its links lead from its file to where they led, and no other
-- byte is another
abbrev pub links_become : Kept → Becomes
links_become kept place body text = IsBodyAnew kept (slice_index_or kept.kept place []) body.kind (slice_index_or kept.names place []) body.bytes text

-- what a harvest kept, under these names
abbrev pub kept_as_named : {B : Type 0} → Harvested B → List (List ℕ) → Kept
kept_as_named h names = record { kept = h.kept; names = names; records = h.records }

-- what the lines of a report say that was kept, if these are the records
abbrev pub kept_by : List Line → List Recorded → Kept
kept_by lines records = record { kept = named_pages lines; names = names_in lines; records = records }

-- these are the outcomes that are recorded, in the order of their addresses
pub record AreRecordsOf (m : Answers) (records : List Recorded) : Type 0 where
  pub ascending : IsAscending (recorded_addresses records)
  pub same : (u : Text) (x : Outcome) → Contains records (u, x) ↔ (m.outcome u ≡ Some x)

-- ---- what was put of what was kept, by whether links are changed, and whether all are that are to be

-- whether links are changed or not, all files are whole
abbrev pub IsPutAs : {B : Type 0} → Bool → Bool → Keeping B → Kept → List B → Holding → Holding → Type 0
IsPutAs false false keeps kept bodies old new = ⊥
IsPutAs false true keeps kept bodies old new = IsShelved keeps.holds kept.names bodies old.files new.files
IsPutAs true all keeps kept bodies old new = IsShelvedAs (links_become kept) all keeps.holds kept.names bodies old new

-- so many files are, and a put failed
abbrev pub IsHalfPutAs : {B : Type 0} → Bool → Keeping B → Kept → List B → Holding → Holding → ℕ → Type 0
IsHalfPutAs false keeps kept bodies old new whole = IsHalfShelved keeps.holds kept.names bodies old new whole
IsHalfPutAs true keeps kept bodies old new whole = IsHalfShelvedAs (links_become kept) keeps.holds kept.names bodies old new whole
