-- What proofs alone need beside `Fields`.
use Rattle.std.specs.Prelude.{ℕ, List, Option, Result, Ok, Err}
use Rattle.std.specs.Borrow.{Bor}
use Rattle.std.specs.Option.{option_copied}
use Rattle.response_reader.specs.declared.fault.ReadFault.{ReadFault}

-- the digits as contracts see them
abbrev pub digits_of : Result (Option (Bor (List ℕ))) ReadFault → Result (Option (List ℕ)) ReadFault
digits_of (Ok o) = Ok (option_copied o)
digits_of (Err f) = Err f
