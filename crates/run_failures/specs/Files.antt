-- Files that couldn't be written, all that failed in a run, and the lines that report it.
use Rattle.std.specs.Prelude.{◌≡◌, ℕ, ℤ, List, ◌++◌, Option, Some, None, ⊤, codes, string_bytes}
use Rattle.std.specs.IoError.{error_kind, raw_os_error}
use Rattle.std.specs.declared.io.Error.{Error}
use Rattle.std.specs.declared.io.ErrorKind.{ErrorKind}
use Rattle.std.specs.declared.io.ErrorKind.TheVariants as kind
use Rattle.run_failures.specs.declared.file_fault.FileFault.{FileFault}
use Rattle.run_failures.specs.declared.file_fault.FileFault.TheVariants.{Named, Memory}
use Rattle.run_failures.specs.declared.losses.Loss.{Loss}

-- what is said of an error of this kind, if it isn't the system's
abbrev pub words_of_kind : ErrorKind → Option (List ℕ)
words_of_kind kind.AlreadyExists = Some (codes "a link, a folder or a device stands there")
words_of_kind kind.NotADirectory = Some (codes "a link or a file stands where a folder is to be")
words_of_kind kind.Other = Some (codes "the disk may not have kept it")
words_of_kind _ = None

-- what is said of an error; nothing of one with a number of the system's
abbrev pub own_words : Option ℤ → ErrorKind → Option (List ℕ)
own_words (Some code) kind = None
own_words None kind = words_of_kind kind

-- the reason is these words, if there are such
abbrev pub IsReason : Option (List ℕ) → List ℕ → Type 0
IsReason None reason = ⊤
IsReason (Some words) reason = reason ≡ words

-- the reason is what is said of the error; the system has words of its own
abbrev pub HasReason : Error → List ℕ → Type 0
HasReason error reason = IsReason (own_words (raw_os_error error) (error_kind error)) reason

-- the fault names the file and says the reason of the error, or that memory ran out
abbrev pub TellsOf : List ℕ → Error → FileFault → Type 0
TellsOf name error (Named told reason) = (string_bytes told ≡ name) × HasReason error (string_bytes reason)
TellsOf name error Memory = ⊤

-- the line of a fault
abbrev pub fault_line : FileFault → List ℕ
fault_line (Named name reason) = codes "couldn't write " ++ string_bytes name ++ codes ": " ++ string_bytes reason ++ codes "\n"
fault_line Memory = codes "couldn't write a file: out of memory\n"

-- the files that couldn't be written, and the connections that were lost
pub record Failed : Type 0 where
  pub files : List FileFault
  pub losses : List Loss
