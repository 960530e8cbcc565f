-- What is read of an index, line by line.
use Rattle.std.specs.Prelude.{◌≡◌, ◌≢◌, ◌++◌, List, [], ◌∷◌, length}
use Rattle.mirror_index.specs.Entries.{Entry, IsEntry, Text, entry_line}
use Rattle.mirror_index.specs.Indexes.{IsBad, IsIndex, end_text, first_line, index_text, lines}
use Rattle.mirror_index.specs.declared.reading.Step.{Step}
use Rattle.mirror_index.specs.declared.reading.Step.TheVariants.{Bad, End, More}

-- one more entry was read and added, and no other is there
pub record IsMore (before after : List Entry) (rest later : Text) : Type 0 where
  pub entry : Entry
  pub added : after ≡ before ++ entry ∷ []
  pub index : IsIndex after
  pub text : rest ≡ entry_line entry ++ 10 ∷ later
  pub some : later ≢ []
  pub only : (e : Entry) (l : Text) → IsEntry e → rest ≡ entry_line e ++ 10 ∷ l → (e ≡ entry) × (l ≡ later)

abbrev pub Stepped : List Entry → List Entry → Text → Step → Type 0
Stepped before after rest (More later) = IsMore before after rest later.now
Stepped before after rest End = (after ≡ before) × (rest ≡ end_text (length before))
Stepped before after rest Bad = (after ≡ before) × IsBad before rest

-- the entries that an index has after these
pub record GoesOn (entries : List Entry) (rest : Text) (all : List Entry) : Type 0 where
  pub later : List Entry
  pub all_of : all ≡ entries ++ later
  pub text : rest ≡ lines later (end_text (length all))

-- what was read so far: these entries, before the rest
pub record IsRead (bytes : Text) (entries : List Entry) (rest : Text) : Type 0 where
  pub text : bytes ≡ first_line ++ 10 ∷ lines entries rest
  pub good : IsIndex entries
  pub back : (all : List Entry) → IsIndex all → bytes ≡ index_text all → GoesOn entries rest all

-- the line is that of an entry that was added
pub record IsAdded (before after : List Entry) (line : Text) : Type 0 where
  pub entry : Entry
  pub added : after ≡ before ++ entry ∷ []
  pub index : IsIndex after
  pub is : line ≡ entry_line entry
  pub only : (e : Entry) → IsEntry e → line ≡ entry_line e → e ≡ entry

-- the line isn't that of an entry that may follow
abbrev pub MayNot : List Entry → Text → Type 0
MayNot before line = (e : Entry) → IsIndex (before ++ e ∷ []) → line ≢ entry_line e
