-- What writing the files of a site leaves in a folder.
use Rattle.std.specs.Prelude.{◌≡◌, ℕ, ◌<◌, ◌+◌, List, [], Option, Some, None, Contains, ⊤, take, length, slice_index_or}
use Rattle.kept_bodies.specs.Bodies.{BodyValue, bytes_of}
use Rattle.local_tree.specs.Folders.{Files, Holding, HasMoreRefused}
use Rattle.local_tree.specs.declared.site_files.WriteFault.{WriteFault}
use Rattle.local_tree.specs.declared.site_files.WriteFault.TheVariants.{Device}

-- the first so many files are whole, and except for the first so many names all is as before
pub record AreWritten (whole touched : ℕ) (names bodies : List (List ℕ)) (old new : Files) : Type 0 where
  pub files : (i : ℕ) → i < whole → new (slice_index_or names i []) ≡ Some (slice_index_or bodies i [])
  pub others : (name : List ℕ) → ¬ Contains (take touched names) name → new name ≡ old name

-- P holds of the files before and after, if the folder's files are known
abbrev pub OfFiles : Option Files → Option Files → (Files → Files → Type 0) → Type 0
OfFiles (Some old) (Some new) P = P old new
OfFiles None None P = ⊤
OfFiles _ _ P = ⊥

-- every file is whole, and nothing else changed
abbrev pub IsWhole : List (List ℕ) → List BodyValue → Option Files → Option Files → Type 0
IsWhole names bodies old new = OfFiles old new (AreWritten (length names) (length names) names (bytes_of bodies))

-- so many files are whole, the next may hold anything, and nothing else changed; a put failed
pub record IsTorn (names : List (List ℕ)) (bodies : List BodyValue) (old new : Holding) (k : ℕ) : Type 0 where
  pub place : k < length names
  pub files : OfFiles old.files new.files (AreWritten k (k + 1) names (bytes_of bodies))
  pub risen : HasMoreRefused old.failed new.failed

-- how a write ended that didn't end well
abbrev pub IsTornBy : List (List ℕ) → List BodyValue → Holding → Holding → WriteFault → Type 0
IsTornBy names bodies old new (Device k) = IsTorn names bodies old new k
