-- What putting kept bodies leaves in a folder, if files have other bytes in place of some.
use Rattle.std.specs.Prelude.{◌≡◌, ◌⊎◌, ◌+◌, ◌<◌, ℕ, Bool, true, false, List, [], Option, Some, None, ⊤, Contains, length, slice_get, slice_index_or, take}
use Rattle.std.specs.List.{AllZip}
use Rattle.kept_bodies.specs.Bodies.{BodyValue}
use Rattle.local_tree.specs.Folders.{Files, Holding, HasMoreRefused, with_file}
use Rattle.local_tree.specs.SiteFiles.{OfFiles}
use Rattle.local_tree.specs.declared.site_files.WriteFault.{WriteFault}
use Rattle.local_tree.specs.declared.site_files.WriteFault.TheVariants.{Device}

-- which bytes may be in place of the body of the page at a place
abbrev pub Becomes : Type 1
Becomes = ℕ → BodyValue → List ℕ → Type 0

-- the bytes that its file has: those, or, if not all are changed, perhaps the body as it came
abbrev pub HasText : Becomes → Bool → ℕ → BodyValue → List ℕ → Type 0
HasText becomes true place body text = becomes place body text
HasText becomes false place body text = becomes place body text ⊎ (text ≡ body.bytes)

-- a file of that name has its bytes, and no other changed, if the folder's files are known
abbrev pub PutsChanged : Becomes → Bool → ℕ → BodyValue → List ℕ → Option Files → Option Files → Type 0
PutsChanged becomes all place body name (Some old) (Some new) =
    (text : List ℕ) × HasText becomes all place body text × ((other : List ℕ) → new other ≡ with_file old name text other)
PutsChanged becomes all place body name None None = ⊤
PutsChanged becomes all place body name _ _ = ⊥

-- the first so many files have their bytes, and except for the first so many names all is as before
pub record AreChanged (becomes : Becomes) (all : Bool) (whole touched : ℕ) (names : List (List ℕ)) (bodies : List BodyValue) (old new : Files) : Type 0 where
  pub files : (i : ℕ) → i < whole → (body : BodyValue) → slice_get bodies i ≡ Some body → (text : List ℕ) × HasText becomes all i body text × (new (slice_index_or names i []) ≡ Some text)
  pub others : (name : List ℕ) → ¬ Contains (take touched names) name → new name ≡ old name

-- whichever bodies the kept ones may be, every file has its bytes, and nothing else changed
abbrev pub IsShelvedAs : {B : Type 0} → Becomes → Bool → (B → BodyValue → Type 0) → List (List ℕ) → List B → Holding → Holding → Type 0
IsShelvedAs becomes all holds names kept old new =
    (bodies : List BodyValue) → AllZip holds kept bodies → OfFiles old.files new.files (AreChanged becomes all (length names) (length names) names bodies)

-- whichever bodies they may be, so many files have their bytes or the bodies, the next may hold anything, and nothing else changed; a put
-- failed
pub record IsHalfShelvedAs {B : Type 0} (becomes : Becomes) (holds : B → BodyValue → Type 0) (names : List (List ℕ)) (kept : List B) (old new : Holding) (k : ℕ) : Type 0 where
  pub place : k < length names
  pub files : (bodies : List BodyValue) → AllZip holds kept bodies → OfFiles old.files new.files (AreChanged becomes false k (k + 1) names bodies)
  pub risen : HasMoreRefused old.failed new.failed

-- how putting them ended that didn't end well
abbrev pub IsHalfShelvedAsBy : {B : Type 0} → Becomes → (B → BodyValue → Type 0) → List (List ℕ) → List B → Holding → Holding → WriteFault → Type 0
IsHalfShelvedAsBy becomes holds names kept old new (Device k) = IsHalfShelvedAs becomes holds names kept old new k
