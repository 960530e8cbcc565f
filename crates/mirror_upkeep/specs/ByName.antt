-- Entries by the names of their files.
use Rattle.std.specs.Prelude.{◌≡◌, ◌≢◌, ◌<◌, ◌≤◌, ℕ, false, List, All, Contains, length, slice_index, slice_index_or}
use Rattle.std.specs.Cmp.Lexicographic.{slice_cmp}
use Rattle.std.specs.Ordering.{is_lt, nat_cmp}
use Rattle.address.specs.Address.{AddressText}
use Rattle.mirror_index.specs.Entries.{Entry, Text}

-- these are the places of all entries, in the order of their names
pub record AreByName (entries : List Entry) (places : List ℕ) : Type 0 where
  pub within : All (λ place. place < length entries) places
  pub all : (place : ℕ) → place < length entries → Contains places place
  pub order : (i j : ℕ) (d : Entry) → i ≤ j → j < length places
      → is_lt (slice_cmp nat_cmp (slice_index_or entries (slice_index places j) d).name (slice_index_or entries (slice_index places i) d).name) ≡ false

-- an entry of another address has this name
pub record IsAnothers (entries : List Entry) (name : Text) (at : AddressText) : Type 0 where
  pub entry : Entry
  pub there : Contains entries entry
  pub named : entry.name ≡ name
  pub other : entry.address ≢ at
