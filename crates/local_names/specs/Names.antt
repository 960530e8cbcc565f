-- The names of the pages of a list: of each page the first of its plain name f and f.1, f.2, .. that is free; if names have endings,
-- of f.html and f.1.html, f.2.html, .. They are a function of the list, and whichever page was fetched first doesn't count.
use Rattle.std.specs.Prelude.{◌≡◌, ◌≢◌, ℕ, Bool, true, false, ◌<◌, ◌==◌, List, [], ◌∷◌, ◌++◌, length, take, if◌then◌else◌, Contains, slice_index_or}
use Rattle.std.specs.Fmt.{decimal}
use Rattle.local_names.specs.PlainNames.{slash}
use Rattle.local_names.specs.Endings.{stem_of, ending_of}

-- the directories of a name are its proper prefixes of whole segments
abbrev pub IsDirectoryOf : List ℕ → List ℕ → Type 0
IsDirectoryOf name directory = (rest : List ℕ) × (name ≡ directory ++ slash ∷ rest)

-- it is a directory of one of the names
abbrev pub IsDirectory : List (List ℕ) → List ℕ → Type 0
IsDirectory names directory = (name : List ℕ) × Contains names name × IsDirectoryOf name directory

-- f, f.1, f.2, ..
abbrev pub numbered_name : List ℕ → ℕ → List ℕ
numbered_name plain number = if number == 0 then plain else plain ++ 46 ∷ decimal number

-- the same, or with the number before the ending if names have endings
abbrev pub numbered_by : Bool → List ℕ → ℕ → List ℕ
numbered_by false plain number = numbered_name plain number
numbered_by true plain number = if number == 0 then plain else (stem_of true plain ++ 46 ∷ (decimal number ++ ending_of true plain))

-- it is no directory of any page's plain name, and no earlier page has it
pub record IsFree (plain given : List (List ℕ)) (name : List ℕ) : Type 0 where
  pub no_directory : ¬ IsDirectory plain name
  pub not_given : ¬ Contains given name

-- the first of f, f.1, f.2, .. that is free
pub record IsFirstFreeBy (has_endings : Bool) (plain given : List (List ℕ)) (own name : List ℕ) : Type 0 where
  pub number : ℕ
  pub is : name ≡ numbered_by has_endings own number
  pub free : IsFree plain given name
  pub first : (k : ℕ) → k < number → ¬ IsFree plain given (numbered_by has_endings own k)

-- the names of the pages with these plain names, each in its place
pub record IsNamingBy (has_endings : Bool) (plain names : List (List ℕ)) : Type 0 where
  pub count : length names ≡ length plain
  pub each : (i : ℕ) → i < length plain → IsFirstFreeBy has_endings plain (take i names) (slice_index_or plain i []) (slice_index_or names i [])

-- the names of pages whose names have no endings
abbrev pub IsNaming : List (List ℕ) → List (List ℕ) → Type 0
IsNaming plain names = IsNamingBy false plain names

-- no name occurs twice
abbrev pub AreDistinct : List (List ℕ) → Type 0
AreDistinct names = (i j : ℕ) → i < j → j < length names → slice_index_or names i [] ≢ slice_index_or names j []

-- no name is a directory of another, so that one folder can hold them all
abbrev pub AreApart : List (List ℕ) → Type 0
AreApart names = (name other : List ℕ) → Contains names name → Contains names other → ¬ IsDirectoryOf other name
