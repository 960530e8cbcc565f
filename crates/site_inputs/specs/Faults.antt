-- The fault of a line with its number, and how it is written; which fault of a line a refused address is.
use Rattle.std.specs.Prelude.{ℕ, List, ◌++◌, codes}
use Rattle.std.specs.Fmt.{decimal}
use Rattle.address.specs.declared.fault.AddressFault.{AddressFault}
use Rattle.address.specs.declared.fault.AddressFault.TheVariants as refusal
use Rattle.site_inputs.specs.declared.input_fault.InputFault.{InputFault}
use Rattle.site_inputs.specs.declared.input_fault.InputFault.TheVariants as input
use Rattle.site_inputs.specs.declared.input_fault.InputLineFault.{InputLineFault}
use Rattle.site_inputs.specs.declared.input_fault.InputLineFault.TheVariants.{Line, Address, Memory}

-- the fault of the line of this number
abbrev pub numbered : InputLineFault → ℕ → InputFault
numbered Line number = input.Line number
numbered Address number = input.Address number
numbered Memory number = input.Memory

-- what is wrong with the line of a refused address: out of memory is Memory
abbrev pub wrong_of : AddressFault → InputLineFault
wrong_of refusal.Memory = Memory
wrong_of _ = Address

-- the text of a fault
abbrev pub fault_text : InputFault → List ℕ
fault_text (input.Line number) = codes "line " ++ decimal number
fault_text (input.Address number) = codes "address " ++ decimal number
fault_text input.Memory = codes "memory"
