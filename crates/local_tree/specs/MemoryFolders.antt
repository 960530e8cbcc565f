-- What a folder in memory is seen as.
use Rattle.std.specs.Prelude.{ℕ, List, [], ◌∷◌, Option, Some, None, bytes_eq, if◌then◌else◌}
use Rattle.local_tree.specs.Folders.{Files}

-- a file: its name and its bytes
abbrev pub NamedFile : Type 0
NamedFile = List ℕ × List ℕ

-- its files in the order of their names, how many puts were made and how many failed, and the put that is to fail
pub record Kept : Type 0 where
  pub files : List NamedFile
  pub puts : ℕ
  pub failed : ℕ
  pub failing : Option ℕ

-- what is under each name
abbrev pub file_in : List NamedFile → Files
file_in [] name = None
file_in (file ∷ files) name = if bytes_eq name file.0 then Some file.1 else file_in files name
