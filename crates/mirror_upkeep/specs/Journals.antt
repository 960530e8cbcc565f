-- The journal of a run: its text, what that says, and which line of a text is the first that is none of a journal.
use Rattle.std.specs.Prelude.{◌≡◌, ◌≢◌, ◌++◌, ◌+◌, ◌≤◌, ◌⊎◌, ◌==◌, ℕ, List, [], ◌∷◌, All, codes, if◌then◌else◌, length, map, nat_le}
use Rattle.address.specs.Address.{AddressText}
use Rattle.hex.specs.Hex.{encode_lower}
use Rattle.sha2.specs.Sha256.{sha256}
use Rattle.mirror_index.specs.Cuts.{Lacks}
use Rattle.mirror_index.specs.Entries.{Entry, IsEntry, Text, entry_line, text_line}
use Rattle.mirror_index.specs.declared.entry.TheConstants.{MAX_LINE}
use Rattle.mirror_index.specs.declared.index.TheConstants.{MAX_ENTRIES}
use Rattle.mirror_upkeep.specs.Latest.{IsWholeIndexOf}
use Rattle.mirror_upkeep.specs.declared.reading.StoppedRun.{StoppedRun}

-- ---- the first line

-- how it begins
abbrev pub version : Text
version = codes "wgetr-journal 1 "

-- the starts in lines
abbrev pub starts_text : List AddressText → Text
starts_text [] = []
starts_text (start ∷ starts) = (start ++ 10 ∷ []) ++ starts_text starts

-- the version, the first start, the SHA-256 of all of them in lines, and the line's end
abbrev pub first_line : AddressText → List AddressText → Text
first_line start others = version ++ (start ++ (32 ∷ (encode_lower (sha256 (starts_text (start ∷ others))) ++ 10 ∷ [])))

-- what is written of an entry: its line, with its end, unless it is too long
abbrev pub entry_part : Entry → Text
entry_part e = if nat_le (length (entry_line e)) MAX_LINE then entry_line e ++ 10 ∷ [] else []

-- ---- the lines after it

-- what a line says: a page that has its file, or an answer without one, which is a text of any bytes
pub data Said : Type 0 where
  Page : Entry → Said
  Answer : Text → Said

-- the line that says it
abbrev pub said_line : Said → Text
said_line (Page e) = entry_line e
said_line (Answer t) = text_line t

-- it may be written: a page if an index may have it, and each answer
abbrev pub IsWritten : Said → Type 0
IsWritten (Page e) = IsEntry e
IsWritten (Answer t) = Unit {0}

-- the lines that say this, and a text after them
abbrev pub lines : List Said → Text → Text
lines [] after = after
lines (s ∷ said) after = said_line s ++ 10 ∷ lines said after

-- the pages, in order
abbrev pub pages_of : List Said → List Entry
pages_of [] = []
pages_of (Page e ∷ said) = e ∷ pages_of said
pages_of (Answer t ∷ said) = pages_of said

-- the answers, in order
abbrev pub answers_of : List Said → List Text
answers_of [] = []
answers_of (Page e ∷ said) = answers_of said
answers_of (Answer t ∷ said) = t ∷ answers_of said

-- ---- journals

-- the first text begins with the second
abbrev pub Begins : Text → Text → Type 0
Begins text front = (rest : Text) × (text ≡ front ++ rest)

-- the first line, the lines that say this, and a part of one more
pub record IsWhole (bytes first : Text) (said : List Said) : Type 0 where
  pub tail : Text
  pub text : bytes ≡ first ++ lines said tail
  pub cut : Lacks 10 tail

-- what is there of a journal that says this: all that, or no line and a part of the first line
abbrev pub IsJournal : Text → Text → List Said → Type 0
IsJournal bytes first said = IsWhole bytes first said ⊎ (said ≡ [] × Begins first bytes)

-- a journal may say this: each line may be written, and the pages are few enough
pub record AreWritten (said : List Said) : Type 0 where
  pub each : All IsWritten said
  pub few : length (pages_of said) ≤ MAX_ENTRIES

-- the first lines begin with the others
abbrev pub StartsWith : List Said → List Said → Type 0
StartsWith said read = (left : List Said) × (said ≡ read ++ left)

-- what a journal leaves of a run: an index of its pages, and its answers
pub record IsRunOf (said : List Said) (run : StoppedRun) : Type 0 where
  pub pages : IsWholeIndexOf (pages_of said) run.pages
  pub answers : map (λ v. v.items) run.answers.items ≡ answers_of said

-- what is before the first zero, which no journal has: bytes that a crash lost are zeros
abbrev pub before_zero : Text → Text
before_zero [] = []
before_zero (x ∷ xs) = if x == 0 then [] else x ∷ before_zero xs

-- ---- what isn't one

-- the text neither begins with this line nor is a part of it
pub record IsOther (bytes first : Text) : Type 0 where
  pub after : ¬ Begins bytes first
  pub part : ¬ Begins first bytes

-- this line is the first that says neither a page that may be written nor an answer
pub record IsFirstBad (bytes first : Text) (n : ℕ) : Type 0 where
  pub said : List Said
  pub rest : Text
  pub text : bytes ≡ first ++ lines said rest
  pub line : n ≡ length said + 2
  pub whole : ¬ Lacks 10 rest
  pub bad : (s : Said) (later : Text) → IsWritten s → rest ≢ said_line s ++ 10 ∷ later

-- each line says a page or an answer, and some page is none that may be written, or there are too many
pub record HasUnwritten (bytes first : Text) : Type 0 where
  pub said : List Said
  pub whole : IsJournal bytes first said
  pub unwritten : ¬ AreWritten said
