-- What is under names after acts, the last of which comes first.
use Rattle.std.specs.Prelude.{◌≡◌, ◌≤◌, ◌+◌, ℕ, List, [], ◌∷◌, Option, Some, None, length, drop, bytes_eq, if◌then◌else◌, string_bytes}
use Rattle.std.specs.declared.string.String.{String}
use Rattle.std.specs.declared.alloc.Global.{Global}
use Rattle.memory_disk.specs.declared.memory.Act.{Act}
use Rattle.memory_disk.specs.declared.memory.Act.TheVariants.{Put, Gone, Moved}

abbrev pub file_at : List Act → List ℕ → Option (List ℕ)
file_at [] n = None
file_at (Put at bytes ∷ acts) n = if bytes_eq (string_bytes at) n then Some bytes.items else file_at acts n
file_at (Gone at ∷ acts) n = if bytes_eq (string_bytes at) n then None else file_at acts n
file_at (Moved from to bytes ∷ acts) n = if bytes_eq (string_bytes to) n then Some bytes.items else (if bytes_eq (string_bytes from) n then None else file_at acts n)

abbrev pub IsOpen : Option (String Global) → List ℕ → Type 0
IsOpen None n = ⊥
IsOpen (Some open_) n = string_bytes open_ ≡ n

-- this was there at that moment or a later one
abbrev pub Stood : List Act → ℕ → List ℕ → Option (List ℕ) → Type 0
Stood acts t n c = (ago : ℕ) × (ago + t ≤ length acts) × (c ≡ file_at (drop ago acts) n)
