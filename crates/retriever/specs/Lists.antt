-- What the program writes if the file of starts that its words name gives none.
use Rattle.std.specs.Prelude.{◌⊎◌, ◌++◌, ℕ, List, Option, codes}
use Rattle.retriever.specs.Parts.{IsDelivered, IsFaultDelivered}
use Rattle.retriever.specs.declared.fault.Fault.TheVariants as fault
use Rattle.start_lists.specs.Faults.{list_status, list_words}
use Rattle.start_lists.specs.declared.fault.ListFault.{ListFault}

-- the line of the fault is delivered with its status, or the line for memory that ran out
abbrev pub IsListRefused : Option (List ℕ) → Option (List ℕ) → ListFault → ℕ → Type 0
IsListRefused before after wrong status =
    IsDelivered before after (list_words wrong ++ codes "\n") (list_status wrong) status ⊎ IsFaultDelivered before after fault.Memory status
