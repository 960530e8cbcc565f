-- The words of outcomes, as they are printed.
use Rattle.std.specs.Prelude.{ℕ, List, codes}
use Rattle.std.specs.Fmt.{decimal}
use Rattle.fetcher.specs.FaultWords.{word_of}
use Rattle.report.specs.declared.text.Word.{Word}
use Rattle.report.specs.declared.text.Word.TheVariants.{Status, Fault, Robots}

-- a status in digits, the word of a fault, or that of robots rules
abbrev pub word_bytes : Word → List ℕ
word_bytes (Status status) = decimal status
word_bytes (Fault kind) = word_of kind
word_bytes Robots = codes "rob"
