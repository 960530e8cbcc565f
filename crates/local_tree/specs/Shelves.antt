-- What putting kept bodies leaves in a folder, whichever bodies they may be.
use Rattle.std.specs.Prelude.{◌≡◌, ◌⊎◌, ◌^◌, ◌-◌, ℕ, ◌<◌, ◌≤◌, ◌+◌, List, Option, length, min}
use Rattle.std.specs.List.{AllZip}
use Rattle.kept_bodies.specs.Bodies.{BodyValue, bytes_of}
use Rattle.local_tree.specs.Folders.{Files, Holding, HasMoreRefused, more_refused, one_more_refused}
use Rattle.local_tree.specs.SiteFiles.{AreWritten, OfFiles, IsWhole}
use Rattle.local_tree.specs.declared.site_files.WriteFault.{WriteFault}
use Rattle.local_tree.specs.declared.site_files.WriteFault.TheVariants.{Device}

-- whichever bodies the kept ones may be, every file is whole by them, and nothing else changed
abbrev pub IsShelved : {B : Type 0} → (B → BodyValue → Type 0) → List (List ℕ) → List B → Option Files → Option Files → Type 0
IsShelved holds names kept old new = (bodies : List BodyValue) → AllZip holds kept bodies → IsWhole names bodies old new

-- whichever bodies they may be, so many files are whole by them, the next may hold anything, and nothing else changed; a put failed
pub record IsHalfShelved {B : Type 0} (holds : B → BodyValue → Type 0) (names : List (List ℕ)) (kept : List B) (old new : Holding) (k : ℕ) : Type 0 where
  pub place : k < length names
  pub files : (bodies : List BodyValue) → AllZip holds kept bodies → OfFiles old.files new.files (AreWritten k (k + 1) names (bytes_of bodies))
  pub risen : HasMoreRefused old.failed new.failed

-- how putting them ended that didn't end well
abbrev pub IsHalfShelvedBy : {B : Type 0} → (B → BodyValue → Type 0) → List (List ℕ) → List B → Holding → Holding → WriteFault → Type 0
IsHalfShelvedBy holds names kept old new (Device k) = IsHalfShelved holds names kept old new k

-- of the puts that were made, at most one for each name, so many didn't fail, and all others did
pub record AreNamed (names old new k : ℕ) : Type 0 where
  pub made : ℕ
  pub few : made ≤ names
  pub named : k ≤ made
  pub failed : new ≡ more_refused old (made - k)

-- the count of a fault is how many bodies got their names
abbrev pub AreNamedBy : ℕ → ℕ → ℕ → WriteFault → Type 0
AreNamedBy names old new (Device k) = AreNamed names old new k

-- no call failed and as many are lost, or a call failed and one more is
abbrev pub MakesOnePut : ℕ → ℕ → ℕ → ℕ → Type 0
MakesOnePut lost old new made =
    ((made ≡ lost) × (new ≡ old)) ⊎ ((made ≡ min (lost + 1) (2 ^ 64 - 1)) × (new ≡ one_more_refused old))
