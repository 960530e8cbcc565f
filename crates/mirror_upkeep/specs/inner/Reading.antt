-- What each step of reading a journal says.
use Rattle.std.specs.Prelude.{◌≡◌, ◌≢◌, ◌++◌, ◌+◌, ◌≤◌, ◌⊎◌, ℕ, List, [], ◌∷◌, All, length, map}
use Rattle.mirror_index.specs.Cuts.{Lacks}
use Rattle.mirror_index.specs.Entries.{Text}
use Rattle.mirror_upkeep.specs.Journals.{Begins, IsOther, IsWritten, Said, StartsWith, answers_of, lines, pages_of, said_line, version}
use Rattle.mirror_upkeep.specs.declared.reading.JournalFault.{JournalFault}
use Rattle.mirror_upkeep.specs.declared.reading.JournalFault.TheVariants.{Entry as EntryFault, Line, Memory, Starts, Version}
use Rattle.mirror_upkeep.specs.declared.reading.Lines.{Lines}

-- this follows the first line; nothing if only a part of it is there
abbrev pub IsAfterFirst : Text → Text → Text → Type 0
IsAfterFirst bytes first rest = (bytes ≡ first ++ rest) ⊎ ((rest ≡ []) × Begins first bytes × (¬ Begins bytes first))

-- a fault of the first line
abbrev pub IsFaultOfFirst : Text → Text → JournalFault → Type 0
IsFaultOfFirst bytes first Version = IsOther bytes first × (¬ Begins bytes version)
IsFaultOfFirst bytes first Starts = IsOther bytes first × Begins bytes version
IsFaultOfFirst bytes first (Line line) = ⊥
IsFaultOfFirst bytes first EntryFault = ⊥
IsFaultOfFirst bytes first Memory = ⊥

-- the pages and the answers of what was said
pub record Holds (said : List Said) (read : Lines) : Type 0 where
  pub pages : read.pages.items ≡ pages_of said
  pub answers : map (λ v. v.items) read.answers.items ≡ answers_of said

-- what this line says was added
pub record IsAdded (before after : Lines) (line : Text) : Type 0 where
  pub added : Said
  pub holds : (said : List Said) → Holds said before → Holds (said ++ added ∷ []) after
  pub is : line ≡ said_line added
  pub only : (s : Said) → IsWritten s → line ≡ said_line s → added ≡ s

-- the line says nothing that may be written
abbrev pub SaysNothing : Text → Type 0
SaysNothing line = (s : Said) → IsWritten s → line ≢ said_line s

-- of what the lines of a text say, of which the code has a part, this was read, and the other lines are before the rest
pub record GoesOn (read : List Said) (rest later : Text) (all : List Said) : Type 0 where
  pub left : List Said
  pub are : all ≡ read ++ left
  pub text : rest ++ later ≡ lines left []

-- this was read of a text, before the rest
pub record ReadIn (text : Text) (read : List Said) (rest : Text) : Type 0 where
  pub is : text ≡ lines read rest
  pub count : (length read + length read) + length rest ≤ length text
  pub back : (all : List Said) (later : Text) → All IsWritten all → text ++ later ≡ lines all [] → GoesOn read rest later all

-- the same, by its pages and answers
pub record HasRead (text : Text) (read : Lines) (rest : Text) : Type 0 where
  pub said : List Said
  pub holds : Holds said read
  pub in_text : ReadIn text said rest

-- a text says this, as far as it has whole lines
pub record AreIn (text : Text) (said : List Said) : Type 0 where
  pub tail : Text
  pub is : text ≡ lines said tail
  pub cut : Lacks 10 tail
  pub back : (all : List Said) (later : Text) → All IsWritten all → text ++ later ≡ lines all [] → StartsWith all said

-- the same, by its pages and answers
pub record IsSaidIn (text : Text) (read : Lines) : Type 0 where
  pub said : List Said
  pub holds : Holds said read
  pub in_text : AreIn text said

-- this line is the first that says neither a page that may be written nor an answer
pub record IsBadIn (text : Text) (n : ℕ) : Type 0 where
  pub said : List Said
  pub rest : Text
  pub is : text ≡ lines said rest
  pub line : n ≡ length said + 2
  pub whole : ¬ Lacks 10 rest
  pub bad : (s : Said) (later : Text) → IsWritten s → rest ≢ said_line s ++ 10 ∷ later
  pub never : (all : List Said) (later : Text) → All IsWritten all → text ++ later ≢ lines all []

-- a fault of the lines
abbrev pub IsFaultIn : Text → JournalFault → Type 0
IsFaultIn text (Line line) = IsBadIn text line
IsFaultIn text Memory = Unit {0}
IsFaultIn text Version = ⊥
IsFaultIn text Starts = ⊥
IsFaultIn text EntryFault = ⊥
