-- Folders: what is in them, and what a put leaves.
use Rattle.std.specs.Prelude.{◌≡◌, ◌≢◌, ℕ, ◌+◌, ◌^◌, ◌-◌, ◌<◌, ◌≤◌, ◌⊎◌, min, max, List, [], ◌∷◌, Option, Some, None, Result, Ok, Err, ⊤, bytes_eq, if◌then◌else◌}

-- what is under each name: a file's bytes, or nothing
abbrev pub Files : Type 0
Files = List ℕ → Option (List ℕ)

-- the files with this one among them
abbrev pub with_file : Files → List ℕ → List ℕ → Files
with_file files name bytes other = if bytes_eq name other then Some bytes else files other

-- the file was put and no other changed, if the folder's files are known
abbrev pub Puts : Option Files → Option Files → List ℕ → List ℕ → Type 0
Puts (Some old) (Some new) name bytes = (other : List ℕ) → new other ≡ with_file old name bytes other
Puts None None name bytes = ⊤
Puts _ _ name bytes = ⊥

-- every other file is as before, if the folder's files are known; this one may hold anything
abbrev pub KeepsOthers : Option Files → Option Files → List ℕ → Type 0
KeepsOthers (Some old) (Some new) name = (other : List ℕ) → other ≢ name → new other ≡ old other
KeepsOthers None None name = ⊤
KeepsOthers _ _ name = ⊥

-- the count after one more failed call: it stays at 2 ^ 64 - 1, and never falls
abbrev pub one_more_refused : ℕ → ℕ
one_more_refused failures = max failures (min (failures + 1) (2 ^ 64 - 1))

-- the count after so many more failed calls
abbrev pub more_refused : ℕ → ℕ → ℕ
more_refused failures n = max failures (min (failures + n) (2 ^ 64 - 1))

-- a call that answered an error is one_more_refused
abbrev pub CountsRefusedPut : {A E : Type 0} → ℕ → ℕ → Result A E → Type 0
CountsRefusedPut old new (Ok a) = new ≡ old
CountsRefusedPut old new (Err e) = new ≡ one_more_refused old

-- the count has risen, or stays if it can't rise
abbrev pub HasMoreRefused : ℕ → ℕ → Type 0
HasMoreRefused old new = (old < new) ⊎ (2 ^ 64 - 1 ≤ new)

-- a folder on a disk: its path, and how many puts answered an error
pub record DiskValue : Type 0 where
  pub path : List ℕ
  pub failed : ℕ

-- the folder at a path, before any put; the empty path is `.`
abbrev pub opened_at : List ℕ → DiskValue
opened_at [] = record { path = 46 ∷ []; failed = 0 }
opened_at (b ∷ bytes) = record { path = b ∷ bytes; failed = 0 }

-- what is known of a folder: its files, and how many puts failed
pub record Holding : Type 0 where
  pub files : Option Files
  pub failed : ℕ

-- what is known of this folder
abbrev pub holding : {D : Type 0} → (D → Option Files) → (D → ℕ) → D → Holding
holding files failed folder = record { files = files folder; failed = failed folder }

-- what is known of a folder whose files aren't known
abbrev pub untold : ℕ → Holding
untold failed = record { files = None; failed = failed }
