-- What a person reads about faults of the words.
use Rattle.std.specs.Prelude.{ℕ, List, [], if◌then◌else◌}
use Rattle.options.specs.Advice.{advice_text, no_text_advice}
use Rattle.options.specs.Asked.{asks}
use Rattle.retriever.specs.declared.fault.Fault.{Fault}
use Rattle.retriever.specs.declared.fault.Fault.TheVariants as fault

-- the lines on a fault of these words, none on other faults and if the words request the help: what they request replaces a report
abbrev pub said_of : List (List ℕ) → Fault → List ℕ
said_of words (fault.Line wrong) = if asks wrong then [] else advice_text words wrong
said_of words fault.NotText = no_text_advice words
said_of words fault.NoSite = []
said_of words (fault.Read wrong) = []
said_of words (fault.Input wrong) = []
said_of words fault.Memory = []
