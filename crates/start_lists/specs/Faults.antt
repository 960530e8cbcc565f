-- The line of each fault of a file of starts, and its status.
use Rattle.std.specs.Prelude.{◌++◌, ℕ, List, codes, decimal}
use Rattle.streams.specs.declared.input.ReadInputFault.{ReadInputFault}
use Rattle.streams.specs.declared.input.ReadInputFault.TheVariants as reading
use Rattle.start_lists.specs.declared.fault.ListFault.{ListFault}
use Rattle.start_lists.specs.declared.fault.ListFault.TheVariants as fault

abbrev pub list_words : ListFault → List ℕ
list_words fault.Base = codes "list base"
list_words fault.Input = codes "list input"
list_words fault.Read = codes "list read"
list_words fault.Long = codes "list long"
list_words (fault.Line number) = codes "list line " ++ decimal number
list_words fault.Memory = codes "stopped memory"

abbrev pub list_status : ListFault → ℕ
list_status fault.Base = 2
list_status fault.Input = 2
list_status fault.Read = 3
list_status fault.Long = 2
list_status (fault.Line number) = 2
list_status fault.Memory = 1

-- why a file that can't be read gives none
abbrev pub unread : ReadInputFault → ListFault
unread reading.Long = fault.Long
unread reading.Failed = fault.Read
unread reading.Memory = fault.Memory
