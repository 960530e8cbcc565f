-- What a live retrieval that saves its answers writes into their record, and what it reports of that.
use Rattle.std.specs.Prelude.{◌≡◌, ◌⊎◌, ◌==◌, ℕ, List, [], ◌++◌, flat_map, codes, length, map, Option, Result, Ok, Err, if◌then◌else◌}
use Rattle.std.specs.Io.KnownBytes.{Appends}
use Rattle.kept_bodies.specs.Bodies.{BodyValue}
use Rattle.options.specs.declared.order.Order.{Order}
use Rattle.fetcher.specs.declared.fetcher.Ask.{Ask}
use Rattle.fetcher.specs.declared.fetcher.Fetcher.{Ghosts as Meaning}
use Rattle.frontier_core.specs.declared.event.Event.{Event}
use Rattle.answer_notes.specs.declared.noted.Noted.{Noted}
use Rattle.site_records.specs.RecordSites.{RecordValue}
use Rattle.site_records.specs.Resumption.{Resuming, Resumption, resumption_of, SaysOr, RulesOr}
use Rattle.site_records.specs.WrittenRecords.{record_text}
use Rattle.site_records.specs.declared.record_fault.RecordFault.{RecordFault}
use Rattle.site_records.specs.declared.record_fault.RecordFault.TheVariants.{Device, Memory}
use Rattle.streams.specs.Streams.{AppendsFront}
use Rattle.workers.specs.Crews.{AreLater}
use Rattle.local_tree.specs.Folders.{Holding}
use Rattle.retriever.specs.Found.{crew_of, LiveEnd, live_text, live_status}
use Rattle.retriever.specs.Keeping.{in_memory}
use Rattle.retriever.specs.Live.{EndsLive}
use Rattle.retriever.specs.Parts.{IsDelivered}
use Rattle.report.specs.Trace.{trace_text}

-- what is written after all else about how the record was saved: nothing if it is whole
abbrev pub save_text : Result (Unit {0}) RecordFault → List ℕ
save_text (Ok done) = []
save_text (Err Device) = codes "record not written\n"
save_text (Err Memory) = codes "stopped memory\n"

-- the status if the record isn't whole: 1 stays
abbrev pub unsaved_status : ℕ → ℕ
unsaved_status status = if status == 1 then 1 else 3

-- the status that it makes of the retrieval's
abbrev pub save_status : Result (Unit {0}) RecordFault → ℕ → ℕ
save_status (Ok done) status = status
save_status (Err Device) status = unsaved_status status
save_status (Err Memory) status = 1

-- the writer of the record gained its text; or it failed after a front of it; or memory ran out before
abbrev pub IsSaved : Result (Unit {0}) RecordFault → Option (List ℕ) → Option (List ℕ) → List ℕ → Type 0
IsSaved (Ok done) old new text = Appends old new text
IsSaved (Err Device) old new text = AppendsFront old new text
IsSaved (Err Memory) old new text = new ≡ old

-- what a live run that saves has around it at one moment: the saved record's writer too, by what that got
pub record OutsideSaved : Type 0 where
  pub folder : Holding
  pub written : Option (List ℕ)
  pub saved : Option (List ℕ)

-- these around it
abbrev pub outside_saved : Holding → Option (List ℕ) → Option (List ℕ) → OutsideSaved
outside_saved folder written saved = record { folder = folder; written = written; saved = saved }

-- what fetchers mean, what each noted, and the notes that are given
pub record Notes (F : Type 0) : Type 1 where
  pub means : Meaning F BodyValue
  pub noted : F → List Noted
  pub given : List Noted

-- these notes
abbrev pub notes_of : {F : Type 0} → Meaning F BodyValue → (F → List Noted) → List Noted → Notes F
notes_of m noted given = record { means = m; noted = noted; given = given }

-- A live retrieval, as `LiveRun` has it, whose record is saved at its end, whatever that is: what was given, and after it what
-- each fetcher noted. What is reported of that comes after all else.
pub record SavedRun {F : Type 0} (notes : Notes F) (order : Order) (fetchers : List F) (before after : OutsideSaved) (status : ℕ) : Type 0 where
  pub left : List F
  pub later : AreLater notes.means fetchers left
  pub shown : List Event
  pub ending : LiveEnd
  pub ends : EndsLive (crew_of notes.means in_memory fetchers left) order before.folder after.folder shown ending
  pub saving : Result (Unit {0}) RecordFault
  pub saved : IsSaved saving before.saved after.saved (record_text (notes.given ++ flat_map notes.noted left))
  pub written : IsDelivered before.written after.written ((trace_text shown ++ live_text ending) ++ save_text saving) (save_status saving (live_status ending)) status

-- ---- with a record that is resumed

-- the fetcher that asks this one for what the record doesn't state, before anything was asked
abbrev pub resuming_of : {F : Type 0} → (F → List Ask) → RecordValue → F → Resuming F
resuming_of log recorded inner = record { recorded = recorded; inner = inner; asks = []; since = length (log inner) }

-- what such fetchers mean, by what those mean that they ask
abbrev pub resuming_means : {F : Type 0} → Meaning F BodyValue → Meaning (Resuming F) BodyValue
resuming_means m =
    record { Site = Resumption m.Site; site = resumption_of m.site m.log; says = SaysOr m.says; rules = RulesOr m.rules; log = λ r. r.asks }

-- what fetchers noted that request from others what a record doesn't state
abbrev pub noted_within : {F : Type 0} → (F → List Noted) → Resuming F → List Noted
noted_within noted resuming = noted resuming.inner

-- what fetchers mean, what each noted, and the record that is resumed
pub record Resumes (F : Type 0) : Type 1 where
  pub means : Meaning F BodyValue
  pub noted : F → List Noted
  pub recorded : RecordValue

-- this record is resumed
abbrev pub resumes : {F : Type 0} → Meaning F BodyValue → (F → List Noted) → RecordValue → Resumes F
resumes m noted recorded = record { means = m; noted = noted; recorded = recorded }

-- The same by fetchers that ask those given for what the record doesn't state; the notes of the record are what is saved
-- first. Or there was no memory for these fetchers: nothing was asked, put or saved.
abbrev pub ResumedRun : {F : Type 0} → Resumes F → Order → List F → OutsideSaved → OutsideSaved → ℕ → Type 0
ResumedRun resumed order fetchers before after status =
    SavedRun (notes_of (resuming_means resumed.means) (noted_within resumed.noted) resumed.recorded.notes) order (map (resuming_of resumed.means.log resumed.recorded) fetchers) before after status
    ⊎ (IsDelivered before.written after.written (codes "stopped memory\n") 1 status × (after.folder ≡ before.folder) × (after.saved ≡ before.saved))
