-- How starts are looked up.
use Rattle.std.specs.Prelude.{◌≡◌, ℕ, List, [], String, Vec, bytes_eq, cond, filter, true}
use Rattle.std.specs.List.{list_any}
use Rattle.std.specs.Option.{option_map_or}
use Rattle.std.specs.HashMap.{HashMap, get_by_text}
use Rattle.std.specs.HashSet.{HashSet, contains}
use Rattle.address.specs.Address.{host_of}

-- those on a host
abbrev pub starts_on : List ℕ → List (List ℕ) → List (List ℕ)
starts_on host starts = filter (λ start. bytes_eq host (host_of start)) starts

-- the set has exactly the starts
abbrev pub Finds : {S : Type 0} → List (List ℕ) → HashSet (List ℕ) S → Type 0
Finds starts set = (address : List ℕ) → contains bytes_eq set address ≡ list_any (λ one. bytes_eq address one) starts

-- the set finds this address, too
abbrev pub FindsOneMore : {S : Type 0} → List ℕ → HashSet (List ℕ) S → HashSet (List ℕ) S → Type 0
FindsOneMore start old new = (address : List ℕ) → contains bytes_eq new address ≡ cond (bytes_eq start address) true (contains bytes_eq old address)

-- the map has the starts of each host, in their order
abbrev pub FindsHosts : {Y Z S : Type 0} → List (List ℕ) → HashMap (String Y) (Vec (List ℕ) Z) S → Type 0
FindsHosts starts hosts = (host : List ℕ) → option_map_or (λ group. group.items) (get_by_text hosts host) [] ≡ starts_on host starts
