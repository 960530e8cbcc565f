-- The words of faults: those of the table.
use Rattle.std.specs.Prelude.{ℕ, List, [], map, get_or}
use Rattle.response_reader.specs.declared.fault.ReadFault.{ReadFault}
use Rattle.response_reader.specs.declared.fault.TheConstants.{TABLE}
use Rattle.response_reader.specs.contracts.fault.ReadFault.{the_type}
use denote.Enum.Declared.{tag_of}

-- the place of a fault among the faults, from 0
abbrev pub place_of : ReadFault → ℕ
place_of fault = tag_of the_type fault

-- the words, each in its fault's place
abbrev pub words : List (List ℕ)
words = map (λ row. row.word.now) TABLE

-- the word of a fault
unfoldable pub word_of : ReadFault → List ℕ
word_of fault = get_or words (place_of fault) []
