-- The words of faults, as maps and reports write them, and their classes (GNU Wget manual, Exit Status): those of the table.
use Rattle.std.specs.Prelude.{ℕ, List, [], map, get_or}
use Rattle.fetcher.specs.declared.fault_kind.FaultClass.{FaultClass}
use Rattle.fetcher.specs.declared.fault_kind.FaultClass.TheVariants.{Protocol}
use Rattle.fetcher.specs.declared.fault_kind.FaultKind.{FaultKind}
use Rattle.fetcher.specs.declared.fault_kind.TheConstants.{TABLE}
use Rattle.fetcher.specs.contracts.fault_kind.FaultKind.{the_type}
use denote.Enum.Declared.{tag_of}

-- the place of a fault among the faults, from 0
abbrev pub place_of : FaultKind → ℕ
place_of kind = tag_of the_type kind

-- the faults, each in its own place
abbrev pub kinds : List FaultKind
kinds = map (λ row. row.kind) TABLE

-- the words, each in its fault's place
abbrev pub words : List (List ℕ)
words = map (λ row. row.word.now) TABLE

-- the word of a fault
unfoldable pub word_of : FaultKind → List ℕ
word_of kind = get_or words (place_of kind) []

-- the class of a fault
unfoldable pub class_of : FaultKind → FaultClass
class_of kind = get_or (map (λ row. row.class) TABLE) (place_of kind) Protocol
