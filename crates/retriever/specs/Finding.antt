-- What a live run of the program found, apart from the events that led there: by what its words order, what is recorded already, and what
-- the system's fetchers may answer.
use Rattle.std.specs.Prelude.{◌≡◌, ◌⊎◌, ℕ, List, [], ◌++◌, Option, Some, None, Result, Ok, codes, false, flat_map, is_some, map, true}
use Rattle.kept_bodies.specs.Bodies.{BodyValue}
use Rattle.options.specs.Order.{seeks_in}
use Rattle.options.specs.declared.order.Order.{Order}
use Rattle.fetcher.specs.declared.fetcher.Fetcher.{Ghosts as Meaning}
use Rattle.site_records.specs.RecordSites.{RecordValue}
use Rattle.site_records.specs.Resumption.{Resuming}
use Rattle.site_records.specs.WrittenRecords.{record_text}
use Rattle.site_records.specs.declared.record_fault.RecordFault.{RecordFault}
use Rattle.workers.specs.Crews.{AreLater}
use Rattle.retriever.specs.Found.{EndsFound, Finds, LiveEnd, Outside, crew_of, live_status, live_text, outside}
use Rattle.retriever.specs.Keeping.{in_memory}
use Rattle.retriever.specs.Order.{IsLiveOrder}
use Rattle.retriever.specs.Parts.{IsDelivered}
use Rattle.retriever.specs.Resuming.{IsUnresumed}
use Rattle.retriever.specs.Saving.{IsSaved, noted_within, resuming_means, resuming_of, save_status, save_text}
use Rattle.retriever.specs.Systems.{AreGiven, IsNotResumed, IsResumed, Means, held}
use Rattle.retriever.specs.declared.resume_fault.ResumeFault.{ResumeFault}

-- The same as `Finds`, and then what the fetchers are in the end is saved so. What is reported of that comes after all else.
pub record FindsAndSaves {F : Type 0} (m : Meaning F BodyValue) (Saves : List F → Result (Unit {0}) RecordFault → Type 0) (order : Order) (fetchers : List F) (before after : Outside) (status : ℕ) : Type 0 where
  pub left : List F
  pub later : AreLater m fetchers left
  pub ending : LiveEnd
  pub ends : EndsFound (crew_of m in_memory fetchers left) order before.folder after.folder ending
  pub saving : Result (Unit {0}) RecordFault
  pub saves : Saves left saving
  pub trace : List ℕ
  pub untraced : order.trace ≡ false → trace ≡ []
  pub written : IsDelivered before.written after.written ((trace ++ live_text ending) ++ save_text saving) (save_status saving (live_status ending)) status

-- memory ran out before the words are carried out, or an expression that they look for would cost too much: a line says which
abbrev pub IsNotBegun : List (List ℕ) → Option (List ℕ) → Option (List ℕ) → ℕ → Type 0
IsNotBegun words before after status =
    IsDelivered before after (codes "stopped memory\n") 1 status ⊎ ((seeks_in words ≡ true) × IsDelivered before after (codes "line pattern\n") 2 status)

module _ {S B F K D V O : Type 0} (m : Means S B F K D V O) where
  -- what is found by fetchers that the system makes for the order, into the folder that it opens for it
  pub record SystemFinds (order : Order) (before after : Option (List ℕ)) (status : ℕ) : Type 0 where
    pub fetchers : List F
    pub folder : D
    pub given : AreGiven m (m.gives.makes m.system) order false fetchers folder
    pub left : D
    pub finds : Finds m.fetchers m.keeps order fetchers (outside (held m folder) before) (outside (held m left) after) status

  -- What is saved where an order says, which may be nowhere: the record that was resumed and, after it, what each fetcher noted.
  abbrev pub SavesAt : RecordValue → Option (List ℕ) → List (Resuming K) → Result (Unit {0}) RecordFault → Type 0
  SavesAt recorded None left saving = saving ≡ Ok tt
  SavesAt recorded (Some path) left saving =
      (begun : V) × (written : V) × m.gives.names m.system path begun
      × IsSaved saving (m.records.contents begun) (m.records.contents written) (record_text (recorded.notes ++ flat_map (noted_within m.noted) left))

  -- The same if the order resumes a record or saves one: by fetchers that answer from the record what it states, and request the rest by others,
  -- which the system makes for the order. Or a line says that there is no memory for the first.
  pub record SystemFindsOnRecord (order : Order) (before after : Option (List ℕ)) (status : ℕ) : Type 0 where
    pub recorded : RecordValue
    pub resumed : IsResumed m order recorded
    pub fetchers : List K
    pub folder : D
    pub given : AreGiven m (m.gives.makes_recorder m.system) order (is_some order.save) fetchers folder
    pub left : D
    pub finds : FindsAndSaves (resuming_means m.recorders) (SavesAt recorded order.save) order (map (resuming_of m.recorders.log recorded) fetchers) (outside (held m folder) before) (outside (held m left) after) status
        ⊎ (IsDelivered before after (codes "stopped memory\n") 1 status × (held m left ≡ held m folder))

  -- one of the two, by what the order resumes and where it saves
  abbrev pub SystemFindsByOrder : Option (List ℕ) × Option (List ℕ) → Order → Option (List ℕ) → Option (List ℕ) → ℕ → Type 0
  SystemFindsByOrder (None, None) order before after status = SystemFinds order before after status
  SystemFindsByOrder (resume, save) order before after status = SystemFindsOnRecord order before after status

  -- What the live retrieval that the words order finds. Or a line says why the record that it resumes can't be, that nothing may be saved where it
  -- says, that what is in its folder can't be gone on with, or that the words can't be carried out.
  abbrev pub ProgramFinds : Option (List ℕ) → Option (List ℕ) → ℕ → List (List ℕ) → Type 0
  ProgramFinds before after status words =
      ((order : Order) × IsLiveOrder words order
      × (SystemFindsByOrder (order.resume, order.save) order before after status ⊎ ((wrong : ResumeFault) × IsNotResumed m order wrong × IsUnresumed before after wrong status)))
      ⊎ IsNotBegun words before after status
