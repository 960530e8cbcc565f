-- An index of entries on a disk, and what a crash may leave of it.
use Rattle.std.specs.Prelude.{◌≡◌, ℕ, List, ◌++◌, Option, Some, None, true, string_bytes}
use Rattle.disk_folder.specs.Disks.{AreTorn}
use Rattle.entry_lines.specs.Lines.{AreEntries, text, recovered, IsFrontOf}
use Rattle.run_store.specs.declared.index.Index.{Index}

-- the index is open and has the lines of these entries, those of the first on the disk
pub record IsIndex {D : Type 0} (opened : D → List ℕ → Type 0) (seen : D → List ℕ → Option (List ℕ) → Type 0) (named : D → List ℕ → Type 0) (kept : D → List ℕ → List ℕ → Type 0)
    (index : Index D) (done added : List (List ℕ)) : Type 0 where
  pub is_open : index.is_open ≡ true
  pub is_opened : opened index.disk (string_bytes index.name)
  pub stands : seen index.disk (string_bytes index.name) (Some (text (done ++ added)))
  pub is_named : named index.disk (string_bytes index.name)
  pub torn : AreTorn (text done) (text added) (kept index.disk (string_bytes index.name))
  pub are_done : AreEntries done
  pub are_added : AreEntries added

-- a crash leaves bytes that are read as these entries and a front of those after them
abbrev pub LeavesFront : List (List ℕ) → List (List ℕ) → Option (List ℕ) → Type 0
LeavesFront done added None = ⊥
LeavesFront done added (Some bytes) = IsFrontOf done added (recovered bytes)

-- as long as it is open it has the lines of some entries
abbrev pub StandsForEntries : {D : Type 0} → Type 0 → (D → List ℕ → Type 0) → (D → List ℕ → Option (List ℕ) → Type 0) → (D → List ℕ → Type 0) → (D → List ℕ → List ℕ → Type 0) → Index D → Type 0
StandsForEntries tells opened seen named kept index = tells → index.is_open ≡ true → ∥ ((done : List (List ℕ)) × (added : List (List ℕ)) × IsIndex opened seen named kept index done added) ∥₁
