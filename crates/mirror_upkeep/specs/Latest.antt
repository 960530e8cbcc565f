-- Entries of which several may be of one address: the last of them counts.
use Rattle.std.specs.Prelude.{◌≡◌, ◌≤◌, List, [], ◌∷◌, All, Option, Some, None, bytes_eq, if◌then◌else◌, length}
use Rattle.address.specs.Address.{AddressText}
use Rattle.mirror_index.specs.Entries.{Entry, IsEntry}
use Rattle.mirror_index.specs.Indexes.{IsIndex}
use Rattle.mirror_index.specs.declared.index.TheConstants.{MAX_ENTRIES}

-- the entry, if it is of this address
abbrev pub if_of : AddressText → Entry → Option Entry
if_of at e = if bytes_eq e.address at then Some e else None

-- the later one, if there is one
abbrev pub later_or : Option Entry → Option Entry → Option Entry
later_or (Some later) first = Some later
later_or None first = first

-- the last of these entries that is of this address, if one is
abbrev pub latest : List Entry → AddressText → Option Entry
latest [] at = None
latest (e ∷ es) at = later_or (latest es at) (if_of at e)

-- an index of these entries: of each address it has the last one, unless no index may have that
pub record IsIndexOf (entries index : List Entry) : Type 0 where
  pub good : IsIndex index
  pub among : (at : AddressText) (e : Entry) → latest index at ≡ Some e → latest entries at ≡ Some e
  pub all : (at : AddressText) (e : Entry) → length entries ≤ MAX_ENTRIES → latest entries at ≡ Some e → IsEntry e → latest index at ≡ Some e

-- the same, of which nothing was left out
pub record IsWholeIndexOf (entries index : List Entry) : Type 0 where
  pub good : IsIndex index
  pub each : (at : AddressText) → latest index at ≡ latest entries at

-- each may be in an index, and they are few enough
pub record ArePages (entries : List Entry) : Type 0 where
  pub each : All IsEntry entries
  pub few : length entries ≤ MAX_ENTRIES
