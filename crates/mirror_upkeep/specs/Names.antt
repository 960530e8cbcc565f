-- Names of files, and which of them are directories of others.
use Rattle.std.specs.Prelude.{◌||◌, ◌++◌, Bool, List, [], ◌∷◌, bytes_eq, nat_eq}
use Rattle.std.specs.List.{list_any, starts_with}
use Rattle.local_names.specs.PlainNames.{slash}
use Rattle.mirror_index.specs.Entries.{Text}

-- it is one of these
abbrev pub has_name : List Text → Text → Bool
has_name names name = list_any (bytes_eq name) names

-- the directories of a name are its proper prefixes of whole segments
abbrev pub is_directory_of : Text → Text → Bool
is_directory_of name directory = starts_with nat_eq name (directory ++ slash ∷ [])

-- a file of this name can't be in one folder with files of these: one is a directory of the other
abbrev pub is_in_way : List Text → Text → Bool
is_in_way names name = list_any (is_directory_of name) names || list_any (λ other. is_directory_of other name) names
