-- The way from one file to another, as it is written down.
use Rattle.std.specs.Prelude.{◌≡◌, ℕ, List, [], ◌++◌, map, codes, if◌then◌else◌}
use Rattle.std.specs.List.{slice_split, flat_map}
use Rattle.local_links.specs.Relative.{Segment, is_slash, directories, upward, written, between}

-- the way up out of the directory that a byte ends
abbrev pub climb : ℕ → List ℕ
climb b = if is_slash b then codes "../" else []

-- the way up out of each directory of a name
abbrev pub climbs : List ℕ → List ℕ
climbs name = flat_map climb name

-- the segments of the way from one name to another
abbrev pub goes_from : List ℕ → List ℕ → List Segment
goes_from from to = between (slice_split is_slash from) (slice_split is_slash to)

-- the two names share no directory: up out of all of the one, and down the other
abbrev pub IsApart : List ℕ → List ℕ → Type 0
IsApart from to = goes_from from to ≡ upward (directories (slice_split is_slash from)) ++ map written (slice_split is_slash to)
