-- An index that is made ready after a crash.
use Rattle.std.specs.Prelude.{◌≡◌, ◌⊎◌, ℕ, List, Option, Some}
use Rattle.entry_lines.specs.Lines.{text, recovered}

-- under the name is a file of these bytes, and a crash leaves no others of it
pub record IsWhole {D : Type 0} (seen : D → List ℕ → Option (List ℕ) → Type 0) (kept : D → List ℕ → List ℕ → Type 0) (disk : D) (name bytes : List ℕ) : Type 0 where
  pub stands : seen disk name (Some bytes)
  pub only : (x : List ℕ) → kept disk name x → x ≡ bytes

-- the file of this name is open, and has the lines of these entries, all of it on the disk
pub record IsReady {D : Type 0} (opened : D → List ℕ → Type 0) (seen : D → List ℕ → Option (List ℕ) → Type 0) (named : D → List ℕ → Type 0) (kept : D → List ℕ → List ℕ → Type 0)
    (disk : D) (name : List ℕ) (entries : List (List ℕ)) : Type 0 where
  pub is_opened : opened disk name
  pub is_whole : IsWhole seen kept disk name (text entries)
  pub is_named : named disk name

-- what might be left before, or bytes that represent the same entries
abbrev pub LeavesSame : (Option (List ℕ) → Type 0) → List ℕ → Option (List ℕ) → Type 0
LeavesSame before bytes c = before c ⊎ ((x : List ℕ) × (c ≡ Some x) × (recovered x ≡ recovered bytes))
