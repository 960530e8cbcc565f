-- An entry that has fields: any bytes each, with a space after it.
use Rattle.std.specs.Prelude.{◌≡◌, ◌≤◌, ℕ, List, [], ◌∷◌, ◌++◌, length, take, map, if◌then◌else◌, ◌==◌}
use Rattle.disk_folder.specs.Disks.{IsTorn}
use Rattle.entry_lines.specs.Escapes.{escaped, read_back}
use Rattle.entry_lines.specs.Lines.{text, recovered}

-- each field, and a space after it
abbrev pub fields_text : List (List ℕ) → List ℕ
fields_text [] = []
fields_text (f ∷ fs) = escaped f ++ 32 ∷ fields_text fs

-- the fields of an entry, the first of which began so; what has no space after it is none
abbrev pub fields_from : List ℕ → List ℕ → List (List ℕ)
fields_from begun [] = []
fields_from begun (x ∷ xs) = if x == 32 then read_back begun ∷ fields_from [] xs else fields_from (begun ++ x ∷ []) xs

abbrev pub fields_of : List ℕ → List (List ℕ)
fields_of entry = fields_from [] entry

-- what is read of an index whose entries have fields
abbrev pub read_index : List ℕ → List (List (List ℕ))
read_index bytes = map fields_of (recovered bytes)

-- an index of entries that have these fields
abbrev pub index_text : List (List (List ℕ)) → List ℕ
index_text entries = text (map fields_text entries)

-- A written index is read back as exactly what was added, in order.
abbrev pub ReadsBack : Type 0
ReadsBack = (entries : List (List (List ℕ))) → read_index (index_text entries) ≡ entries

-- Whatever a crash leaves of it is read as the entries that were synced, and a front of the others.
abbrev pub ReadsCut : Type 0
ReadsCut = (done added : List (List (List ℕ))) (bytes : List ℕ) → IsTorn (index_text done) (index_text added) bytes
    → (n : ℕ) × (n ≤ length added) × (read_index bytes ≡ done ++ take n added)
