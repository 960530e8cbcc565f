-- Depths of addresses, in order of discovery: the number of an address is its place (GNU Wget manual, Recursive Download: the depth of a page).
use Rattle.std.specs.Prelude.{ℕ, nat_lt, min, List, [], ◌∷◌, ◌++◌, Option, Some, None, if◌then◌else◌}
use Rattle.std.specs.Str.{bytes_eq}
use Rattle.std.specs.Map.{lookup}
use Rattle.address.specs.Address.{AddressText}
use Rattle.indexmap.specs.IndexMap.{insert_entry, set_value_at}

-- addresses with their depths, how many may be held at most, and for how many new ones there is memory already
pub record Table : Type 0 where
  pub most : ℕ
  pub depths : List (AddressText × ℕ)
  pub room : ℕ

-- the depth that is held for the address
abbrev pub depth_at : List (AddressText × ℕ) → AddressText → Option ℕ
depth_at depths address = lookup (bytes_eq address) depths

-- the depths after an offer, given what was held for the address: a new address goes last, a lesser depth takes the old one's place, any other changes nothing
abbrev pub after_offer : List (AddressText × ℕ) → AddressText → ℕ → Option ℕ → List (AddressText × ℕ)
after_offer depths address depth None = depths ++ (address, depth) ∷ []
after_offer depths address depth (Some held) = if nat_lt depth held then insert_entry bytes_eq depths address depth else depths

-- the depths after an offer for the address of this number, given what was held: a lesser depth takes the old one's place
abbrev pub lowered_at : List (AddressText × ℕ) → ℕ → ℕ → ℕ → List (AddressText × ℕ)
lowered_at depths number depth held = if nat_lt depth held then set_value_at depths number depth else depths

-- the lesser of what was held and what is offered
abbrev pub lesser : Option ℕ → ℕ → ℕ
lesser None depth = depth
lesser (Some held) depth = min held depth
