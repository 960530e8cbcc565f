-- What a web server opens that serves the folder of a host: names are made so that it finds them.
use Rattle.std.specs.Prelude.{◌≡◌, ℕ, true, false, ◌<◌, List, [], ◌∷◌, ◌++◌, map, take, length, codes, All, IsUtf8, slice_index_or, if◌then◌else◌}
use Rattle.std.specs.List.{slice_split, list_all, filter, join_with_byte}
use Rattle.percent_encoding.specs.Percent.{percent_decode}
use Rattle.address.specs.Address.{AddressText, dir_of, file_of, query_of}
use Rattle.local_names.specs.PlainNames.{slash, is_slash, is_dot, has_bytes, dir_segments, local_segment, host_units, plain_name_of}
use Rattle.local_names.specs.LocalNames.{IsShort, IsUncontrolled}
use Rattle.local_names.specs.Names.{IsFree}
use Rattle.local_names.specs.Rules.{usual_rules}

-- the path of an address
abbrev pub path_of : AddressText → List ℕ
path_of page = dir_of page ++ file_of page

-- the file in a directory's place
abbrev pub index_in : List ℕ → List (List ℕ)
index_in file = if has_bytes file then [] else codes "index.html" ∷ []

-- what a server opens for a page's path, below the folder of its host: the path is decoded and then cut at each `/`; two that
-- follow each other are one to a disk
abbrev pub served_segments : AddressText → List (List ℕ)
served_segments page = filter has_bytes (slice_split is_slash (percent_decode (path_of page))) ++ index_in (file_of page)

-- a segment of a path, decoded, that a name can have: no byte of it is escaped, and it isn't cut
pub record IsServable (segment : List ℕ) : Type 0 where
  pub utf8 : IsUtf8 segment
  pub bytes : All IsUncontrolled segment
  pub inner : All (λ byte. is_slash byte ≡ false) segment
  pub named : list_all is_dot segment ≡ false
  pub short : IsShort segment

-- the address has no query, and each segment of its path is such a one
pub record HasServablePath (page : AddressText) : Type 0 where
  pub no_query : query_of page ≡ []
  pub segments : All IsServable (map percent_decode (dir_segments (path_of page)))

-- each such page that meets no other has the name that is looked for below the folder of its host
abbrev pub AreServed : List AddressText → List (List ℕ) → Type 0
AreServed pages names =
    (i : ℕ) → i < length pages → HasServablePath (slice_index_or pages i [])
    → IsFree (map (plain_name_of usual_rules) pages) (take i names) (plain_name_of usual_rules (slice_index_or pages i []))
    → slice_index_or names i [] ≡ join_with_byte slash (local_segment true (host_units usual_rules (slice_index_or pages i [])) ∷ served_segments (slice_index_or pages i []))
