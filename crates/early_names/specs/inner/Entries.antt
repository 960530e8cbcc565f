-- The table by which claims are kept: of each claimed name true, and of each directory of one false.
use Rattle.std.specs.Prelude.{◌≡◌, ◌⊎◌, ◌<◌, ℕ, Bool, true, false, List, length, Option, Some, None, String, string_bytes, map, bytes_eq}
use Rattle.indexmap.specs.IndexMap.{IndexMap, get_by}
use Rattle.local_names.specs.Names.{IsDirectoryOf}
use Rattle.early_names.specs.Claims.{is_name}

-- the entry of a name
abbrev pub entry_of : {Y S : Type 0} → IndexMap (String Y) Bool S → List ℕ → Option Bool
entry_of entries name = get_by (λ key. bytes_eq name (string_bytes key)) entries

-- the entries as they are in the map
abbrev pub table_of : {Y S : Type 0} → IndexMap (String Y) Bool S → List (List ℕ × Bool)
table_of entries = map (λ entry. (string_bytes entry.0, entry.1)) entries.entries

-- it is a directory of the name, and each other one is a directory of it
pub record IsLongestDirectory (name directory : List ℕ) : Type 0 where
  pub is : IsDirectoryOf name directory
  pub others : (q : List ℕ) → IsDirectoryOf name q → (q ≡ directory) ⊎ IsDirectoryOf directory q
  pub shorter : length directory < length name

-- what is above a marked directory is marked
abbrev pub MarksAll : (List ℕ → Option Bool) → Type 0
MarksAll entry = (below above : List ℕ) → IsDirectoryOf below above → entry below ≡ Some false → entry above ≡ Some false

-- a directory of the name is claimed
abbrev pub HasClaimedAbove : (List ℕ → Option Bool) → List ℕ → Type 0
HasClaimedAbove entry name = (directory : List ℕ) × IsDirectoryOf name directory × (is_name (entry directory) ≡ true)

-- the name has no entry, and no directory of it is claimed
abbrev pub IsUnmarked : (List ℕ → Option Bool) → List ℕ → Type 0
IsUnmarked entry name = (entry name ≡ None) × (¬ HasClaimedAbove entry name)

-- each entry is as before, or that of a directory of the name
abbrev pub MarksSome : (List ℕ → Option Bool) → (List ℕ → Option Bool) → List ℕ → Type 0
MarksSome old new name = (q : List ℕ) → (new q ≡ old q) ⊎ (IsDirectoryOf name q × (new q ≡ Some false))

-- the name has the entry of a claimed one, its directories have theirs, and nothing else changed
pub record IsAdded (old new : List ℕ → Option Bool) (name : List ℕ) : Type 0 where
  pub own : new name ≡ Some true
  pub directories : (directory : List ℕ) → IsDirectoryOf name directory → new directory ≡ Some false
  pub others : (q : List ℕ) → bytes_eq name q ≡ false → (new q ≡ old q) ⊎ (IsDirectoryOf name q × (new q ≡ Some false))

-- each directory of a claimed name has an entry as such, and, until memory ran out, nothing else has one
pub record IsTable (is_closed : Bool) (entry : List ℕ → Option Bool) : Type 0 where
  pub marked : (name directory : List ℕ) → IsDirectoryOf name directory → entry name ≡ Some true → entry directory ≡ Some false
  pub needed : is_closed ≡ false → (directory : List ℕ) → entry directory ≡ Some false
      → (name : List ℕ) × IsDirectoryOf name directory × (entry name ≡ Some true)
