-- Indexes: their texts, and which line of a text is the first that is none of an index.
use Rattle.std.specs.Prelude.{◌≡◌, ◌≢◌, ◌++◌, ◌+◌, ◌<◌, ◌≤◌, ℕ, List, [], ◌∷◌, ◌-◌, All, Contains, codes, length, slice_index_or}
use Rattle.std.specs.Fmt.{decimal}
use Rattle.address.specs.Address.{AddressText}
use Rattle.address.specs.AddressOrder.{IsBefore}
use Rattle.mirror_index.specs.Entries.{Entry, IsEntry, Text, entry_line}
use Rattle.mirror_index.specs.declared.index.TheConstants.{MAX_ENTRIES}

-- each address is before the next, so that none is there twice
abbrev pub IsInOrder : List Entry → Type 0
IsInOrder entries = (k : ℕ) (d : Entry) → k + 1 < length entries → IsBefore (slice_index_or entries k d).address (slice_index_or entries (k + 1) d).address

-- these entries may be an index
pub record IsIndex (entries : List Entry) : Type 0 where
  pub each : All IsEntry entries
  pub order : IsInOrder entries
  pub few : length entries ≤ MAX_ENTRIES

-- an entry may come after these: its address is after the last one's
abbrev pub Follows : List Entry → Entry → Type 0
Follows entries e = (d : Entry) → 0 < length entries → IsBefore (slice_index_or entries (length entries - 1) d).address e.address

-- none of these is of this address
abbrev pub HasNone : List Entry → AddressText → Type 0
HasNone entries at = (k : ℕ) (d : Entry) → k < length entries → (slice_index_or entries k d).address ≢ at

-- this one is among them, and of this address
abbrev pub HasThis : List Entry → AddressText → Entry → Type 0
HasThis entries at e = Contains entries e × (e.address ≡ at)

-- ---- the text

abbrev pub first_line : Text
first_line = codes "wgetr-index 1"

-- the last line says how many entries there are
abbrev pub last_line : ℕ → Text
last_line count = codes "end " ++ decimal count

-- the lines of entries, and a text after them
abbrev pub lines : List Entry → Text → Text
lines [] after = after
lines (e ∷ es) after = entry_line e ++ 10 ∷ lines es after

abbrev pub end_text : ℕ → Text
end_text count = last_line count ++ 10 ∷ []

abbrev pub index_text : List Entry → Text
index_text entries = first_line ++ 10 ∷ lines entries (end_text (length entries))

-- ---- what isn't one

-- after these entries the text goes on neither with one that may follow, and more, nor with the last line and its end
pub record IsBad (entries : List Entry) (rest : Text) : Type 0 where
  pub entry : (e : Entry) (later : Text) → IsIndex (entries ++ e ∷ []) → later ≢ [] → rest ≢ entry_line e ++ 10 ∷ later
  pub end : rest ≢ end_text (length entries)

-- the first line that no index has is this one: the first, which is another, or that after some entries
pub record IsFirstBad (bytes : Text) (n : ℕ) : Type 0 where
  pub entries : List Entry
  pub rest : Text
  pub is : bytes ≡ first_line ++ 10 ∷ lines entries rest
  pub good : IsIndex entries
  pub line : n ≡ length entries + 2
  pub bad : IsBad entries rest

-- the text doesn't begin with the first line of an index
abbrev pub IsOther : Text → Type 0
IsOther bytes = (rest : Text) → bytes ≢ first_line ++ 10 ∷ rest
