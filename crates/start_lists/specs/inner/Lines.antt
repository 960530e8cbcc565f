-- What proofs alone need beside `Lists`.
use Rattle.std.specs.Prelude.{◌≡◌, ◌++◌, ℕ, List, Option, Some}
use Rattle.address.specs.Address.{AddressText}
use Rattle.start_lists.specs.declared.fault.ListFault.{ListFault}
use Rattle.start_lists.specs.declared.fault.ListFault.TheVariants as fault
use Rattle.start_lists.specs.declared.lines.StartFault.{StartFault}
use Rattle.start_lists.specs.declared.lines.StartFault.TheVariants as line_fault

-- the fault of the line of this number
abbrev pub numbered : StartFault → ℕ → ListFault
numbered line_fault.Bad number = fault.Line number
numbered line_fault.Memory number = fault.Memory

-- a line that says these starts adds them
abbrev pub Adds : Option (List AddressText) → List AddressText → List AddressText → Type 0
Adds said before after = (added : List AddressText) × (said ≡ Some added) × (after ≡ before ++ added)
