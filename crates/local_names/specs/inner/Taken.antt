-- Which names are taken while names are given.
use Rattle.std.specs.Prelude.{◌≡◌, ◌↔◌, ◌⊎◌, ℕ, ◌+◌, ◌-◌, ◌<◌, ◌≤◌, true, false, nat_lt, slice_index_or, ◌&&◌, List, [], ◌∷◌, ◌++◌, take, length, Option, Some, IsSome, Contains, bytes_eq, if◌then◌else◌}
use Rattle.std.specs.BTreeMap.{BTreeMap, get_by_text}
use Rattle.std.specs.declared.cmp.Ordering.{Ordering}
use Rattle.std.specs.declared.string.String.{String}
use Rattle.std.specs.Cmp.Lexicographic.{slice_cmp}
use Rattle.std.specs.Ordering.{nat_cmp, is_lt}
use denote.Ref.{Bor}
use Rattle.local_names.specs.PlainNames.{slash}
use Rattle.local_names.specs.Names.{IsDirectory}

-- the text that is lent
abbrev pub lent_text : Bor (List ℕ) → List ℕ
lent_text text = text.now

-- the order of texts, by their bytes
abbrev pub text_cmp : Bor (List ℕ) → Bor (List ℕ) → Ordering
text_cmp text other = slice_cmp nat_cmp text.now other.now

-- how a lent name compares to those in a directory, by the bytes with which these begin
abbrev pub below_order : List ℕ → Bor (List ℕ) → Ordering
below_order directory other = slice_cmp nat_cmp (take (length directory + 1) other.now) (directory ++ slash ∷ [])

-- the two lists have the same names, as often as they may
abbrev pub HasSameNames : List (List ℕ) → List (List ℕ) → Type 0
HasSameNames names others = (name : List ℕ) → Contains names name ↔ Contains others name

-- the name is a directory of a plain name, or has an entry
abbrev pub IsNameTaken : {Y : Type 0} → List (List ℕ) → BTreeMap (String Y) ℕ → List ℕ → Type 0
IsNameTaken plain next name = IsDirectory plain name ⊎ IsSome (get_by_text next name)

-- the entries after a page was given a name with this number
abbrev pub remembered : (List ℕ → Option ℕ) → List ℕ → List ℕ → ℕ → List ℕ → Option ℕ
remembered old own name number q =
    if nat_lt 0 number && bytes_eq own q then Some (number + 1) else (if bytes_eq name q then Some 1 else old q)

-- of each place of the names, the last first, one that is no greater than those from there on
pub record AreLeast (names least : List (List ℕ)) : Type 0 where
  pub count : length least ≡ length names
  pub low : (m j : ℕ) → m < length names → length names ≤ m + 1 + j → j < length names → is_lt (slice_cmp nat_cmp (slice_index_or names j []) (slice_index_or least m [])) ≡ false

-- the name orders before the least one after this place
abbrev pub IsPast : List (List ℕ) → ℕ → List ℕ → Type 0
IsPast least i name = i + 1 < length least → is_lt (slice_cmp nat_cmp name (slice_index_or least (length least - (i + 2)) [])) ≡ true

-- a page at this place was given this name: the entries are then those with its own among them, or as before if no
-- page after it may get the name
abbrev pub IsNoted : List (List ℕ) → ℕ → List ℕ → (List ℕ → Option ℕ) → (List ℕ → Option ℕ) → (List ℕ → Option ℕ) → Type 0
IsNoted least i name old noted new = ((q : List ℕ) → new q ≡ noted q) ⊎ (IsPast least i name × ((q : List ℕ) → new q ≡ old q))
