-- What is put into a folder and written of what was retrieved, before it is said what that is. How a text is written, with the
-- status that belongs to it, is left to who says it.
use Rattle.std.specs.Prelude.{◌≡◌, ◌⊎◌, ◌&&◌, ℕ, Bool, true, false, List, ◌++◌, map, codes, Result, Ok, Err}
use Rattle.frontier_core.specs.declared.event.Cause.{Cause}
use Rattle.frontier_core.specs.declared.event.Cause.TheVariants as cause
use Rattle.harvest.specs.Harvests.{Harvested}
use Rattle.workers.specs.declared.retrieval.Halt.{Halt}
use Rattle.local_tree.specs.Folders.{Holding}
use Rattle.options.specs.declared.naming.PageNames.{PageNames}
use Rattle.local_tree.specs.declared.site_files.WriteFault.{WriteFault}
use Rattle.local_tree.specs.declared.site_files.WriteFault.TheVariants.{Device}
use Rattle.report.specs.Entries.{harvest_lines_of}
use Rattle.report.specs.ExitStatus.{exit_status}
use Rattle.report.specs.Report.{report_text}
use Rattle.retriever.specs.Found.{unchanged_line}
use Rattle.retriever.specs.Keeping.{Keeping, kinds_of}
use Rattle.retriever.specs.Mirrored.{IsPutAs, IsHalfPutAs, kept_as_named}
use Rattle.retriever.specs.inner.Live.{IsTornWritten}
use Rattle.retriever.specs.Parts.{shown_of}
use Rattle.retriever.specs.inner.Parts.{IsRead, is_borne_out}
use Rattle.retriever.specs.Retrieved.{Stopped}
use Rattle.retriever.specs.Run.{finish_text}
use Rattle.retriever.specs.Site.{AreNamesOf}
use Rattle.report.specs.Trace.{trace_text}
use Rattle.run_mirror.specs.Mirrors.{Kept}

-- the cause that is given if there is no memory for more
abbrev pub bare_cause : Cause → Cause
bare_cause cause.Full = cause.Memory
bare_cause cause.Memory = cause.Memory
bare_cause cause.Mismatch = cause.Mismatch
bare_cause cause.Quota = cause.Memory

-- the line of a retrieval that stopped is written, after what is shown of its trace, or without that because memory ran out
abbrev pub IsHaltWritten : {B : Type 0} → (List ℕ → ℕ → Type 0) → Bool → Halt B → Type 0
IsHaltWritten IsWritten with_trace halt =
    IsWritten (trace_text (shown_of (is_borne_out halt.cause && with_trace) halt.harvest.trace) ++ finish_text (Stopped halt.cause)) 1
    ⊎ IsWritten (finish_text (Stopped (bare_cause halt.cause))) 1

-- how many files were whole when a put failed
abbrev pub files_whole : WriteFault → ℕ
files_whole (Device whole) = whole

-- the count in a fault's place
abbrev pub IsHalfPutBy : {B : Type 0} → Bool → Keeping B → Kept → List B → Holding → Holding → WriteFault → Type 0
IsHalfPutBy converts keeps kept bodies old new (Device whole) = IsHalfPutAs converts keeps kept bodies old new whole

-- this text is written with this status; or, if not all were changed, with the line that says so
abbrev pub IsPutWritten : (List ℕ → ℕ → Type 0) → Bool → List ℕ × ℕ → Type 0
IsPutWritten IsWritten true (text, wanted) = IsWritten text wanted
IsPutWritten IsWritten false (text, wanted) = IsWritten (text ++ unchanged_line) 3

-- these files were put, with links changed or not, and then it was written; or a put failed
abbrev pub IsPutAndWritten : {B : Type 0} → Bool → Keeping B → (List ℕ → ℕ → Type 0) → Kept → List B → List ℕ × ℕ → Holding → Holding → Type 0
IsPutAndWritten converts keeps IsWritten kept bodies (text, wanted) old new =
    ((all : Bool) × IsPutAs converts all keeps kept bodies old new × (new.failed ≡ old.failed) × IsPutWritten IsWritten all (text, wanted))
    ⊎ ((whole : ℕ) × IsHalfPutAs converts keeps kept bodies old new whole × IsTornWritten IsWritten text whole)

-- the text of a harvest whose kept pages have these names
abbrev pub harvest_text : {B : Type 0} → Bool → Harvested B → List (List ℕ) → List ℕ
harvest_text with_trace h names = trace_text (shown_of with_trace h.trace) ++ report_text (harvest_lines_of h names)

-- what is put and written of a harvest that was read: its kept pages and its report; or there is no memory for it, and nothing is put
abbrev pub IsHarvestPut : {B : Type 0} → Bool → Keeping B → (List ℕ → ℕ → Type 0) → PageNames → Bool → Harvested B → Holding → Holding → Type 0
IsHarvestPut converts keeps IsWritten naming with_trace h old new =
    ((new ≡ old) × IsWritten (codes "stopped memory\n") 1)
    ⊎ (IsRead h × (names : List (List ℕ)) × AreNamesOf naming h.kept (kinds_of keeps.kind_of h.bodies) names
    × IsPutAndWritten converts keeps IsWritten (kept_as_named h names) h.bodies (harvest_text with_trace h names, exit_status (map (λ recorded. recorded.1) h.records)) old new)

-- what is put and written of a retrieval that stopped for this cause: if that is the quota, the same as of a harvest,
-- and else the line of the cause
abbrev pub IsStopPut : {B : Type 0} → Bool → Keeping B → (List ℕ → ℕ → Type 0) → PageNames → Bool → Cause → Harvested B → Holding → Holding → Type 0
IsStopPut converts keeps IsWritten naming with_trace cause.Quota h old new = IsHarvestPut converts keeps IsWritten naming with_trace h old new
IsStopPut converts keeps IsWritten naming with_trace cause.Full h old new = (new ≡ old) × IsHaltWritten IsWritten with_trace (record { cause = cause.Full; harvest = h })
IsStopPut converts keeps IsWritten naming with_trace cause.Memory h old new = (new ≡ old) × IsHaltWritten IsWritten with_trace (record { cause = cause.Memory; harvest = h })
IsStopPut converts keeps IsWritten naming with_trace cause.Mismatch h old new = (new ≡ old) × IsHaltWritten IsWritten with_trace (record { cause = cause.Mismatch; harvest = h })

-- what is put and written of what was retrieved
abbrev pub IsPutOf : {B : Type 0} → Bool → Keeping B → (List ℕ → ℕ → Type 0) → PageNames → Bool → Result (Harvested B) (Halt B) → Holding → Holding → Type 0
IsPutOf converts keeps IsWritten naming with_trace (Ok h) old new = IsHarvestPut converts keeps IsWritten naming with_trace h old new
IsPutOf converts keeps IsWritten naming with_trace (Err halt) old new = IsStopPut converts keeps IsWritten naming with_trace halt.cause halt.harvest old new
