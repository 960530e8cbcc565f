-- The lines that the entries of a harvest make.
use Rattle.std.specs.Prelude.{◌≡◌, ℕ, Bool, true, false, List, [], ◌∷◌, Option, Some, None, option_map, slice_get, bytes_eq, if◌then◌else◌}
use Rattle.std.specs.List.{filter_map}
use Rattle.frontier_core.specs.Tables.{Text}
use Rattle.frontier_core.specs.Readers.{Recorded}
use Rattle.harvest.specs.Harvests.{Harvested}
use Rattle.harvest.specs.declared.entry.HarvestEntry.{HarvestEntry}
use Rattle.report.specs.Report.{Line, Fate, Asked, Refused}

-- what became of an entry: robots rules refuse it, or it has the outcome at its place in the records
abbrev pub fate_at : List Recorded → Bool → Option ℕ → Option Fate
fate_at records true place = Some Refused
fate_at records false None = None
fate_at records false (Some i) = option_map (λ recorded. Asked recorded.1) (slice_get records i)

-- the name of a page among those that are kept, each of which has its name in its place
abbrev pub name_among : List Text → List (List ℕ) → Text → Option (List ℕ)
name_among [] names u = None
name_among (page ∷ kept) [] u = None
name_among (page ∷ kept) (name ∷ names) u = if bytes_eq page u then Some name else name_among kept names u

-- the line of an entry with what became of it
abbrev pub line_with : {B : Type 0} → Harvested B → List (List ℕ) → HarvestEntry → Fate → Line
line_with harvest names entry fate =
    record { address = entry.address; depth = entry.depth; fate = fate; name = name_among harvest.kept names entry.address }

-- the line of an entry, if something became of it
abbrev pub line_at : {B : Type 0} → Harvested B → List (List ℕ) → HarvestEntry → Option Line
line_at harvest names entry = option_map (line_with harvest names entry) (fate_at harvest.records entry.refused entry.answer)

-- the lines of a harvest whose kept pages have these names, in the order of its entries
abbrev pub harvest_lines_of : {B : Type 0} → Harvested B → List (List ℕ) → List Line
harvest_lines_of harvest names = filter_map (line_at harvest names) harvest.entries
