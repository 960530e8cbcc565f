-- A journal that is written, and what a crash at any moment leaves under its name.
use Rattle.std.specs.Prelude.{◌≡◌, ◌⊎◌, ℕ, List, [], Option, Some, Result, Ok, Err, true, false, string_bytes}
use Rattle.disk_folder.specs.Disks.{Holed, LeavesOnly}
use Rattle.disk_folder.specs.declared.disk.DiskError.{DiskError}
use Rattle.run_journal.specs.declared.journal.Adding.{Adding}
use Rattle.run_journal.specs.declared.journal.Adding.TheVariants.{Added, Nothing}
use Rattle.run_journal.specs.declared.journal.Journal.{Journal}

-- what was left there before, or of this text each byte or a zero, up to any length
abbrev pub LeavesText : (Option (List ℕ) → Type 0) → List ℕ → Option (List ℕ) → Type 0
LeavesText before text c = before c ⊎ ((x : List ℕ) × (c ≡ Some x) × Holed text x)

-- the bytes of a line that may be there after it was to be added
abbrev pub added_of : Result Adding DiskError → List ℕ → List ℕ
added_of (Ok Added) line = line
added_of (Ok Nothing) line = []
added_of (Err e) line = line

module _ {D : Type 0} (opened held : D → List ℕ → Type 0) (seen : D → List ℕ → Option (List ℕ) → Type 0) (kept : D → List ℕ → List ℕ → Type 0) where
  -- the file of this name is open and held, has this text, and nothing else may be left of it
  pub record IsMade (text : List ℕ) (disk : D) (name : List ℕ) : Type 0 where
    pub is_opened : opened disk name
    pub is_held : held disk name
    pub stands : seen disk name (Some text)
    pub torn : (x : List ℕ) → kept disk name x → Holed text x

  module _ (stale : D → List ℕ → Option (List ℕ) → Type 0) where
    -- so is the file of a journal, and a crash leaves that, or what was left there before
    pub record IsWritten (before : Option (List ℕ) → Type 0) (text : List ℕ) (disk : D) (name : List ℕ) : Type 0 where
      pub made : IsMade text disk name
      pub older : (c : Option (List ℕ)) → stale disk name c → before c

    module _ (left : D → List ℕ → Option (List ℕ) → Type 0) (moment : D → ℕ) (since : D → ℕ → List ℕ → Option (List ℕ) → Type 0) where
      -- Since this disk a journal of this text was written: at whatever moment there was a crash, it left what the disk might have left, or a front of the text.
      pub record Writes {L : Type 0} (text : List ℕ) (start disk : D) (journal : Journal L) : Type 0 where
        pub passes : LeavesOnly moment since (string_bytes journal.name) start disk (LeavesText (left start (string_bytes journal.name)) text)
        -- before its first line nothing was done
        pub waits : journal.is_open ≡ true → journal.is_placed ≡ false → (journal.front.items ≡ text) × ((c : Option (List ℕ)) → left disk (string_bytes journal.name) c → left start (string_bytes journal.name) c)
        -- and then all of it is there
        pub stands : journal.is_open ≡ true → journal.is_placed ≡ true → IsWritten (left start (string_bytes journal.name)) text disk (string_bytes journal.name)
