-- An index while it is made, of the last entry of each address.
use Rattle.std.specs.Prelude.{◌≡◌, ◌++◌, ◌≤◌, Bool, true, List, [], ◌∷◌, Option, None, Some, length}
use Rattle.std.specs.List.Sorted.{IsSortedBy}
use Rattle.std.specs.Cmp.Lexicographic.{slice_cmp}
use Rattle.std.specs.Ordering.{is_lt, nat_cmp}
use Rattle.address.specs.Address.{AddressText}
use Rattle.mirror_index.specs.Entries.{Entry, IsEntry}
use Rattle.mirror_index.specs.Indexes.{IsIndex}
use Rattle.mirror_index.specs.declared.index.TheConstants.{MAX_ENTRIES}
use Rattle.mirror_upkeep.specs.Latest.{ArePages, latest}

-- the addresses fall, or stay as they are
abbrev pub IsFalling : List Entry → Type 0
IsFalling es = IsSortedBy (λ x y. is_lt (slice_cmp nat_cmp y.address x.address)) es

-- what was made of these entries, and whether nothing was left out
pub record IsTaken (done index : List Entry) (is_whole : Bool) : Type 0 where
  pub good : IsIndex index
  pub count : length index ≤ length done
  pub among : (at : AddressText) (e : Entry) → latest index at ≡ Some e → latest done at ≡ Some e
  pub all : (at : AddressText) (e : Entry) → length done ≤ MAX_ENTRIES → latest done at ≡ Some e → IsEntry e → latest index at ≡ Some e
  pub whole : is_whole ≡ true → (at : AddressText) → latest index at ≡ latest done at
  pub fit : ArePages done → is_whole ≡ true

-- the address of the entry that was taken last, if one was
abbrev pub LastIs : List Entry → Option AddressText → Type 0
LastIs [] last = last ≡ None
LastIs (e ∷ es) last = last ≡ Some e.address

-- of these entries some are left, and the index is made of the others
pub record Taking (entries left index : List Entry) (is_whole : Bool) (last : Option AddressText) : Type 0 where
  pub done : List Entry
  pub all : entries ≡ left ++ done
  pub taken : IsTaken done index is_whole
  pub latest : LastIs done last
