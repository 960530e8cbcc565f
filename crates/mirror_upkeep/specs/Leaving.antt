-- Which files of an earlier run go.
use Rattle.std.specs.Prelude.{◌++◌, ◌&&◌, ◌||◌, Bool, not, List, [], ◌∷◌, codes, if◌then◌else◌}
use Rattle.address.specs.Address.{AddressText}
use Rattle.mirror_index.specs.Entries.{Entry, Text}
use Rattle.std.specs.List.{list_any}
use Rattle.mirror_upkeep.specs.Names.{has_name, is_directory_of, is_in_way}

-- the name, unless it is one of these
abbrev pub other_name : List Text → Text → List Text
other_name names name = if has_name names name then [] else name ∷ []

-- those of a page's body as it came, beside a file of this name if such are kept, and in the program's own directory
abbrev pub originals_of : Bool → List Text → Text → List Text
originals_of backs_up names name = (if backs_up then other_name names (name ++ codes ".orig") else []) ++ other_name names (codes ".wgetr%orig/" ++ name)

-- the files of a page whose file has this name: of its body as it came, and the file; none of them has one of these names
abbrev pub files_of : Bool → List Text → Text → List Text
files_of backs_up names name = originals_of backs_up names name ++ other_name names name

-- those of the pages of these entries
abbrev pub files : Bool → List Text → List Entry → List Text
files backs_up names [] = []
files backs_up names (e ∷ es) = files_of backs_up names e.name ++ files backs_up names es

-- no file of this run has the name of an entry's
abbrev pub is_gone : List Text → Entry → Bool
is_gone names e = not (has_name names e.name)

-- so it is, and the page is kept under another name, or its file is in the way
abbrev pub is_to_go : List Text → List AddressText → Entry → Bool
is_to_go names kept e = is_gone names e && (has_name kept e.address || is_in_way names e.name)

-- a file of this run is to be in a directory of this name
abbrev pub is_displaced : List Text → Text → Bool
is_displaced names name = list_any (λ other. is_directory_of other name) names

-- the name, if it is so
abbrev pub displaced_name : List Text → Text → List Text
displaced_name names name = if is_displaced names name then name ∷ [] else []

-- the copies of bodies as they came of the pages of these entries
abbrev pub originals : Bool → List Text → List Entry → List Text
originals backs_up names [] = []
originals backs_up names (e ∷ es) = originals_of backs_up names e.name ++ originals backs_up names es

-- a file of this name has another body since
abbrev pub is_renewed : List Text → Entry → Bool
is_renewed renewed e = has_name renewed e.name
