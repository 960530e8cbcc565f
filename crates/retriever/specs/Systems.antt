-- What a live run makes of an order by what a system gives it.
use Rattle.std.specs.Prelude.{◌≡◌, ◌⊎◌, ◌&&◌, ◌||◌, ℕ, Bool, is_some, true, false, List, All, Option, Some, None, MatchOption, codes, length, map, not, if◌then◌else◌}
use Rattle.std.specs.declared.io.Write.{Ghosts as Writers}
use Rattle.kept_bodies.specs.Bodies.{BodyValue}
use Rattle.options.specs.declared.order.Order.{Order}
use Rattle.options.specs.Order.{kept_of, sending_of}
use Rattle.fetcher.specs.declared.fetcher.Fetcher.{Ghosts as Fetchers}
use Rattle.local_tree.specs.Folders.{Holding, holding}
use Rattle.local_tree.specs.declared.disk_folder.originals.Originals.{Originals}
use Rattle.local_tree.specs.declared.disk_folder.originals.Originals.TheVariants.{Nowhere, Beside, Hidden}
use Rattle.local_tree.specs.declared.folder.Folder.{Ghosts as Folders}
use Rattle.answer_notes.specs.declared.noted.Noted.{Noted}
use Rattle.site_inputs.specs.declared.input_fault.InputFault.TheVariants as input
use Rattle.streams.specs.declared.input.ReadInputFault.TheVariants as reading
use Rattle.html_links.specs.declared.rules.LinkRules.{LinkRules}
use Rattle.site_records.specs.Entries.{Entry}
use Rattle.site_records.specs.Received.{taken_of}
use Rattle.site_records.specs.RecordNotes.{HasNotes}
use Rattle.site_records.specs.RecordSites.{RecordValue}
use Rattle.site_records.specs.Records.{IsRecord, IsFault, answers_of, rules_of}
use Rattle.retriever.specs.Found.{outside}
use Rattle.retriever.specs.Keeping.{Keeping, in_memory}
use Rattle.retriever.specs.Live.{LiveRun}
use Rattle.retriever.specs.Resuming.{IsUnresumed}
use Rattle.retriever.specs.Saving.{ResumedRun, outside_saved, resumes, resuming_means, resuming_of}
use Rattle.retriever.specs.declared.resume_fault.ResumeFault.{ResumeFault}
use Rattle.retriever.specs.declared.resume_fault.ResumeFault.TheVariants.{Read, Input, Refused, Discontinued}
use Rattle.live_system.specs.Settings.{Settings}
use Rattle.pacing.specs.Retries.{retries_by}
use Rattle.live_system.specs.declared.system.System.{Ghosts as Systems}

-- a system, and what its fetchers, those that note, its folders and the writers of its records mean, and how bodies are kept
pub record Means (S B F K D V O : Type 0) : Type 1 where
  pub gives : Systems S B F K D V O
  pub system : S
  pub fetchers : Fetchers F B
  pub recorders : Fetchers K BodyValue
  pub noted : K → List Noted
  pub keeps : Keeping B
  pub folders : Folders D
  pub records : Writers V

-- what belongs to a system
abbrev pub means : {S B F K D V O : Type 0} → Systems S B F K D V O → S → Fetchers F B → Fetchers K BodyValue → (K → List Noted) → Keeping B → Folders D → Writers V → Means S B F K D V O
means gives system fetchers recorders noted keeps folders records =
    record { gives = gives; system = system; fetchers = fetchers; recorders = recorders; noted = noted; keeps = keeps; folders = folders; records = records }

-- how the fetchers of an order make their requests, with notes or without
abbrev pub settings_of : Order → Bool → Settings
settings_of order is_recording =
    record { links = order.links; is_recording = is_recording; kept = kept_of order; proxies = order.proxies; sends = sending_of order; manner = order.manner; retries = retries_by order.retries; takes_times = order.takes_times }

-- where an order keeps bodies as they came whose links change: beside their files if it says so, and if not, for later runs alone, if it
-- takes pages of earlier ones
abbrev pub originals_of : Order → Originals
originals_of order =
    if order.backs_up then Beside else (if order.converts && (order.upkeep.continues || (order.upkeep.timestamps || order.upkeep.skips)) then Hidden else Nowhere)

-- the bytes are a record, whose entries, all or without those that failed, say this; if it is saved again its notes say the same
abbrev pub IsRecordTaken : Bool → Bool → LinkRules → List ℕ → RecordValue → Type 0
IsRecordTaken takes_failed is_saving links bytes recorded =
    (said : List Entry) × IsRecord links bytes said × (recorded.answers ≡ answers_of (taken_of takes_failed said))
    × (recorded.rules ≡ rules_of (taken_of takes_failed said)) × HasNotes is_saving links recorded.notes (taken_of takes_failed said)

-- the same of all entries
abbrev pub IsRecordRead : Bool → LinkRules → List ℕ → RecordValue → Type 0
IsRecordRead is_saving links bytes recorded = IsRecordTaken true is_saving links bytes recorded

-- why no record is read of bytes that a file may hold: they can't be had, or have this fault
abbrev pub IsNotRead : (List ℕ → Type 0) → LinkRules → ResumeFault → Type 0
IsNotRead holds links (Read wrong) = Unit {0}
IsNotRead holds links (Input input.Memory) = Unit {0}
IsNotRead holds links Refused = ⊥
IsNotRead holds links Discontinued = ⊥
IsNotRead holds links (Input wrong) = (bytes : List ℕ) × holds bytes × IsFault links bytes wrong

module _ {S B F K D V O : Type 0} (m : Means S B F K D V O) where
  -- what is known of the contents of a folder of the system
  abbrev pub held : D → Holding
  held folder = holding m.folders.files m.folders.failed folder

  -- fetchers that are made for the order, with notes or without, as many as there are to be workers, and a folder that the system opens at the
  -- order's prefix and that keeps bodies where the order does
  pub record AreGiven {X : Type 0} (makes : Settings → X → Type 0) (order : Order) (is_recording : Bool) (fetchers : List X) (folder : D) : Type 0 where
    pub made : All (makes (settings_of order is_recording)) fetchers
    pub count : length fetchers ≡ order.workers
    pub opened : m.gives.opens m.system order.prefix (originals_of order) folder

  -- the live retrieval that is ordered, by such fetchers and into such a folder
  pub record SystemRun (order : Order) (before after : Option (List ℕ)) (status : ℕ) : Type 0 where
    pub fetchers : List F
    pub folder : D
    pub given : AreGiven (m.gives.makes m.system) order false fetchers folder
    pub left : D
    pub lives : LiveRun m.fetchers m.keeps order fetchers (outside (held folder) before) (outside (held left) after) status

  -- this is recorded in the file that the order resumes, without what failed if that is to be requested again, or in a record without entries
  -- if it resumes none
  abbrev pub IsResumed : Order → RecordValue → Type 0
  IsResumed order recorded =
      MatchOption order.resume (IsRecordRead (is_some order.save) order.links (codes "wgetr-record 2\n") recorded)
      (λ path. (bytes : List ℕ) × m.gives.holds m.system path bytes × IsRecordTaken (not order.retries_failed) (is_some order.save) order.links bytes recorded)

  -- the same by fetchers that ask such as note for what is recorded in the file that the order resumes
  pub record SystemRunResumed (order : Order) (before after : Option (List ℕ)) (status : ℕ) : Type 0 where
    pub recorded : RecordValue
    pub resumed : IsResumed order recorded
    pub fetchers : List K
    pub folder : D
    pub given : AreGiven (m.gives.makes_recorder m.system) order false fetchers folder
    pub left : D
    pub lives : LiveRun (resuming_means m.recorders) in_memory order (map (resuming_of m.recorders.log recorded) fetchers) (outside (held folder) before) (outside (held left) after) status

  -- the same, and the notes of what is recorded, and what such fetchers note, are saved at this path
  pub record SystemRunSaved (order : Order) (path : List ℕ) (before after : Option (List ℕ)) (status : ℕ) : Type 0 where
    pub recorded : RecordValue
    pub resumed : IsResumed order recorded
    pub fetchers : List K
    pub folder : D
    pub given : AreGiven (m.gives.makes_recorder m.system) order true fetchers folder
    pub left : D
    pub record_begun : V
    pub named : m.gives.names m.system path record_begun
    pub record_left : V
    pub lives : ResumedRun (resumes m.recorders m.noted recorded) order fetchers (outside_saved (held folder) before (m.records.contents record_begun))
        (outside_saved (held left) after (m.records.contents record_left)) status

  -- one of the last two, by whether and where the order saves
  abbrev pub SystemRunOnRecord : Option (List ℕ) → Order → Option (List ℕ) → Option (List ℕ) → ℕ → Type 0
  SystemRunOnRecord None order before after status = SystemRunResumed order before after status
  SystemRunOnRecord (Some path) order before after status = SystemRunSaved order path before after status

  -- one of the three, by what the order resumes and where it saves
  abbrev pub SystemRunByOrder : Option (List ℕ) × Option (List ℕ) → Order → Option (List ℕ) → Option (List ℕ) → ℕ → Type 0
  SystemRunByOrder (None, None) order before after status = SystemRun order before after status
  SystemRunByOrder (None, Some path) order before after status = SystemRunOnRecord (Some path) order before after status
  SystemRunByOrder (Some from, save) order before after status = SystemRunOnRecord save order before after status

  -- why the file that the order resumes can't be, or none may be saved where the order says, or what is in its folder can't be gone on with
  abbrev pub IsNotResumed : Order → ResumeFault → Type 0
  IsNotResumed order (Read reading.Memory) = Unit {0}
  IsNotResumed order (Input input.Memory) = Unit {0}
  IsNotResumed order Refused = (path : List ℕ) × (order.save ≡ Some path) × m.gives.refuses m.system path
  IsNotResumed order Discontinued = (order.upkeep.continues ≡ true) × m.gives.discontinues m.system order.prefix
  IsNotResumed order wrong = (path : List ℕ) × (order.resume ≡ Some path) × IsNotRead (m.gives.holds m.system path) order.links wrong

  -- the live retrieval that is ordered, or the line that says why its record can't be resumed, or that memory ran out
  abbrev pub OrderedRun : Order → Option (List ℕ) → Option (List ℕ) → ℕ → Type 0
  OrderedRun order before after status =
      SystemRunByOrder (order.resume, order.save) order before after status ⊎ ((wrong : ResumeFault) × IsNotResumed order wrong × IsUnresumed before after wrong status)
