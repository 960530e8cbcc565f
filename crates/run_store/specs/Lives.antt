-- Any list of runs of an index, each of which was stopped at any moment, and what is read of it then.
use Rattle.std.specs.Prelude.{◌≡◌, ◌⊎◌, ℕ, List, [], ◌∷◌, Option, Some, None, string_bytes}
use Rattle.disk_folder.specs.Disks.{LeavesOnly}
use Rattle.entry_lines.specs.Lines.{recovered}
use Rattle.run_store.specs.declared.index.Index.{Index}
use Rattle.run_store.specs.Indexes.{IsIndex}
use Rattle.run_store.specs.Runs.{Call, IsKept, Ran}

-- a run
pub data Run : Type 0 where
  -- that was stopped before the index was open
  opening : Run
  -- that was stopped at some moment since the first of these calls had returned
  calling : List Call → List Call → Run

-- the entries that are read of what is there; if nothing does, none
abbrev pub read_of : Option (List ℕ) → List (List ℕ)
read_of None = []
read_of (Some bytes) = recovered bytes

-- What may be read after these runs, the last of which comes first: of each run what was read at its beginning and a front of what it added, each once, with at least what it had synced.
abbrev pub MayHold : List Run → List (List ℕ) → Type 0
MayHold [] entries = entries ≡ []
MayHold (opening ∷ older) entries = MayHold older entries
MayHold (calling before behind ∷ older) entries = (first : List (List ℕ)) × MayHold older first × IsKept first before behind entries

-- this or, as opening leaves it, bytes of which the same is read
abbrev pub LeavesRead : (Option (List ℕ) → Type 0) → Option (List ℕ) → Option (List ℕ) → Type 0
LeavesRead before found c = before c ⊎ ((x : List ℕ) × (c ≡ Some x) × (recovered x ≡ read_of found))

module _ {D : Type 0} (opened : D → List ℕ → Type 0) (seen : D → List ℕ → Option (List ℕ) → Type 0) (named : D → List ℕ → Type 0) (kept : D → List ℕ → List ℕ → Type 0) (left : D → List ℕ → Option (List ℕ) → Type 0)
    (moment : D → ℕ) (since : D → ℕ → List ℕ → Option (List ℕ) → Type 0) (name : List ℕ) where
  -- At any moment of opening a crash leaves what one before might have left, or what the same is read of.
  abbrev pub Passing : D → D → Type 0
  Passing old new = (found : Option (List ℕ)) → seen old name found → LeavesOnly moment since name old new (LeavesRead (left old name) found)

  -- the index that opening makes of what is there
  pub record IsOpened (old : D) (new : Index D) : Type 0 where
    pub same_name : string_bytes new.name ≡ name
    pub stands : (found : Option (List ℕ)) → seen old name found → IsIndex opened seen named kept new (read_of found) []
    pub passes : Passing old new.disk

  -- the disk after a crash at some moment since t: what is there, and what a crash may leave of that, is what it may have left
  pub record IsLeft (old : D) (t : ℕ) (new : D) : Type 0 where
    pub stands : (c : Option (List ℕ)) → seen new name c → since old t name c
    pub leaves : (c : Option (List ℕ)) → left new name c → since old t name c

  -- nothing is there, and a crash leaves nothing
  pub record IsNew (disk : D) : Type 0 where
    pub stands : (c : Option (List ℕ)) → seen disk name c → c ≡ None
    pub leaves : (c : Option (List ℕ)) → left disk name c → c ≡ None

  -- the disk after these runs, the last of which comes first
  abbrev pub Lived : List Run → D → Type 0
  Lived [] disk = IsNew disk
  Lived (opening ∷ older) disk = (old : D) × (found : Option (List ℕ)) × (new : D)
      × Lived older old × seen old name found × Passing old new × IsLeft new (moment old) disk
  Lived (calling before behind ∷ older) disk = (old : D) × (found : Option (List ℕ)) × (start : Index D) × (mid : Index D) × (end : Index D)
      × Lived older old × seen old name found × IsOpened old start
      × Ran opened seen named kept moment since start before mid × Ran opened seen named kept moment since mid behind end × IsLeft end.disk (moment mid.disk) disk
