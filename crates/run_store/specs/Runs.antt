-- Any list of calls of an index, and what a crash at any moment of it may leave.
use Rattle.std.specs.Prelude.{◌≡◌, ◌⊎◌, ◌≤◌, ℕ, List, [], ◌∷◌, ◌++◌, Option, Some, None, true, false, length, take, string_bytes, Result, Ok, Err}
use Rattle.disk_folder.specs.Disks.{LeavesOnly}
use Rattle.entry_lines.specs.Lines.{recovered}
use Rattle.run_store.specs.declared.index.Index.{Index}
use Rattle.run_store.specs.Indexes.{IsIndex, LeavesFront}

-- how a call ended: it did what it was to do, it changed nothing, or it failed and nothing is added any more
pub data Ending : Type 0 where
  done : Ending
  nothing : Ending
  shut : Ending

-- a call of an index
pub data Call : Type 0 where
  -- an entry is added
  appends : List ℕ → Ending → Call
  -- all entries are brought onto the disk
  syncs : Ending → Call

-- the entry that a call adds, or may have added before it failed
abbrev pub entry_of : Call → List (List ℕ)
entry_of (appends e done) = e ∷ []
entry_of (appends e shut) = e ∷ []
entry_of (appends e nothing) = []
entry_of (syncs ending) = []

-- those of some calls, in their order
abbrev pub entries_of : List Call → List (List ℕ)
entries_of [] = []
entries_of (call ∷ calls) = entry_of call ++ entries_of calls

-- What is read after a crash, of an index that began with some entries: these, and a front of those that calls added, each once, with at least those before each sync that had returned.
pub record IsKept (first : List (List ℕ)) (before behind : List Call) (entries : List (List ℕ)) : Type 0 where
  pub count : ℕ
  pub no_more : count ≤ length (entries_of (before ++ behind))
  pub is : entries ≡ first ++ take count (entries_of (before ++ behind))
  pub synced : (xs ys : List Call) → before ≡ xs ++ syncs done ∷ ys → length (entries_of xs) ≤ count

-- a crash leaves bytes that are read so
abbrev pub LeavesKept : List (List ℕ) → List Call → List Call → Option (List ℕ) → Type 0
LeavesKept first before behind None = ⊥
LeavesKept first before behind (Some bytes) = IsKept first before behind (recovered bytes)

module _ {D : Type 0} (opened : D → List ℕ → Type 0) (seen : D → List ℕ → Option (List ℕ) → Type 0) (named : D → List ℕ → Type 0) (kept : D → List ℕ → List ℕ → Type 0)
    (moment : D → ℕ) (since : D → ℕ → List ℕ → Option (List ℕ) → Type 0) where
  -- At any moment of a call a crash leaves what was on the disk, and a front of what was added since with these entries.
  abbrev pub Passes : List (List ℕ) → Index D → Index D → Type 0
  Passes entries old new = (done added : List (List ℕ)) → IsIndex opened seen named kept old done added
      → LeavesOnly moment since (string_bytes old.name) old.disk new.disk (LeavesFront done (added ++ entries))

  -- a call that did what it was to do
  pub record Does (entries : List (List ℕ)) (becomes : List (List ℕ) → List (List ℕ) → Index D → Type 0) (old new : Index D) : Type 0 where
    pub was_open : old.is_open ≡ true
    pub same_name : new.name ≡ old.name
    pub now : (done added : List (List ℕ)) → IsIndex opened seen named kept old done added → becomes done added new
    pub passes : Passes entries old new

  -- a call that failed, after which nothing is added
  pub record Shuts (entries : List (List ℕ)) (old new : Index D) : Type 0 where
    pub was_open : old.is_open ≡ true
    pub is_shut : new.is_open ≡ false
    pub same_name : new.name ≡ old.name
    pub passes : Passes entries old new

  -- what a call makes of an index
  abbrev pub Step : Call → Index D → Index D → Type 0
  Step (appends e done) old new = Does (e ∷ []) (λ d a i. IsIndex opened seen named kept i d (a ++ e ∷ [])) old new
  Step (syncs done) old new = Does [] (λ d a i. IsIndex opened seen named kept i (d ++ a) []) old new
  Step (appends e nothing) old new = new ≡ old
  Step (syncs nothing) old new = new ≡ old
  Step (appends e shut) old new = Shuts (e ∷ []) old new
  Step (syncs shut) old new = Shuts [] old new

  -- what a call that returned this makes of it
  abbrev pub Answers : {T E : Type 0} → (Ending → Call) → Result T E → Index D → Index D → Type 0
  Answers call (Ok x) old new = Step (call done) old new
  Answers call (Err e) old new = Step (call nothing) old new ⊎ Step (call shut) old new

  -- what these calls make of it, one after another
  abbrev pub Ran : Index D → List Call → Index D → Type 0
  Ran old [] new = new ≡ old
  Ran old (call ∷ calls) new = (mid : Index D) × Step call old mid × Ran mid calls new
