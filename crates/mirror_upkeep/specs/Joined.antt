-- What an index has after a run.
use Rattle.std.specs.Prelude.{◌||◌, Bool, not, List, [], ◌∷◌, Option, Some, None, bytes_eq, if◌then◌else◌, map}
use Rattle.std.specs.List.{filter, filter_map}
use Rattle.address.specs.Address.{AddressText}
use Rattle.mirror_index.specs.Entries.{Entry, Text}
use Rattle.mirror_upkeep.specs.Names.{has_name}

abbrev pub addresses : List Entry → List AddressText
addresses entries = map (λ e. e.address) entries

abbrev pub names : List Entry → List Text
names entries = map (λ e. e.name) entries

-- one of these pages has the address or the name of the entry
abbrev pub is_replaced : List Entry → Entry → Bool
is_replaced pages e = has_name (addresses pages) e.address || has_name (names pages) e.name

-- the entries of which that isn't so
abbrev pub left_of : List Entry → List Entry → List Entry
left_of earlier pages = filter (λ e. not (is_replaced pages e)) earlier

-- the name at the first place of an address, if it has one
abbrev pub name_at : List AddressText → List Text → AddressText → Option Text
name_at [] names at = None
name_at (k ∷ kept) [] at = None
name_at (k ∷ kept) (name ∷ names) at = if bytes_eq k at then Some name else name_at kept names at

-- the page under this name, if there is one
abbrev pub with_name : Entry → Option Text → Option Entry
with_name page None = None
with_name page (Some name) = Some (record page { name = name })

-- the pages that are kept, under their names
abbrev pub renamed : List Entry → List AddressText → List Text → List Entry
renamed pages kept names = filter_map (λ page. with_name page (name_at kept names page.address)) pages
