-- What proofs alone need beside `Refusals`.
use Rattle.std.specs.Prelude.{◌≡◌, Bool, true, Result, Ok, Err}
use Rattle.response_reader.specs.declared.fault.ReadFault.{ReadFault}
use Rattle.response_reader.specs.declared.fault.ReadFault.TheVariants.{Memory}

-- Memory comes if the sink refused, and any other fault if it didn't
abbrev pub FaultRefuses : Bool → Bool → ReadFault → Type 0
FaultRefuses old new Memory = new ≡ true
FaultRefuses old new f = new ≡ old

-- Memory is answered exactly if the sink refused
abbrev pub Refuses : {A : Type 0} → Bool → Bool → Result A ReadFault → Type 0
Refuses old new (Ok a) = new ≡ old
Refuses old new (Err f) = FaultRefuses old new f
