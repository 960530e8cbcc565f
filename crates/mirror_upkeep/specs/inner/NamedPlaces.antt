-- Places of entries with their names.
use Rattle.std.specs.Prelude.{◌≡◌, ◌<◌, ◌≤◌, ◌&&◌, ℕ, Bool, true, false, List, [], None, length, nat_lt, slice_index, slice_index_or}
use Rattle.std.specs.Cmp.Lexicographic.{slice_cmp}
use Rattle.std.specs.Ordering.{is_lt, nat_cmp}
use denote.Ref.{Bor}
use Rattle.mirror_index.specs.Entries.{Entry, Text}
use Rattle.mirror_index.specs.declared.entry.Mark.TheVariants.{Changed}

-- the first ones are the names of as many entries, each with its place
pub record AreNamed (entries : List Entry) (named : List (Bor Text × ℕ)) (count : ℕ) : Type 0 where
  pub long : length named ≡ count
  pub name : (k : ℕ) (d : Bor Text × ℕ) (e : Entry) → k < count → (slice_index_or named k d).0.now ≡ (slice_index_or entries k e).name
  pub place : (k : ℕ) (d : Bor Text × ℕ) → k < count → (slice_index_or named k d).1 ≡ k

-- one name is before the other
abbrev pub is_named_before : Bor Text × ℕ → Bor Text × ℕ → Bool
is_named_before one other = is_lt (slice_cmp nat_cmp one.0.now other.0.now)

-- an entry to read where there is none
abbrev pub no_entry : Entry
no_entry = record { address = []; name = []; size = 0; mark = Changed 0; head = record { status = 0; content_type = None; etag = None; last_modified = None } }

-- the name of the entry at a place is before this one
abbrev pub is_before : List Entry → Text → ℕ → Bool
is_before entries name place = nat_lt place (length entries) && is_lt (slice_cmp nat_cmp (slice_index_or entries place no_entry).name name)

-- the entry at a place has this name
pub record NamedAt (entries : List Entry) (place : ℕ) (name : Text) : Type 0 where
  pub within : place < length entries
  pub named : (d : Entry) → (slice_index_or entries place d).name ≡ name

-- the names at the first places are before this one, those at the others aren't
pub record AreBefore (entries : List Entry) (places : List ℕ) (name : Text) (first : ℕ) : Type 0 where
  pub before : (k : ℕ) → k < first → k < length places → is_before entries name (slice_index places k) ≡ true
  pub after : (k : ℕ) → first ≤ k → k < length places → is_before entries name (slice_index places k) ≡ false
