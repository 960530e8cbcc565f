-- What proofs alone need beside `Names`.
use Rattle.std.specs.Prelude.{◌≡◌, ◌≢◌, ℕ, List, Result, MatchResult, codes}
use Rattle.address.specs.Address.{path_query_of}
use Rattle.site_inputs.specs.declared.input_fault.InputLineFault.{InputLineFault}
use Rattle.site_inputs.specs.declared.input_fault.InputLineFault.TheVariants.{Line}
use Rattle.site_inputs.specs.Names.{Names}

-- the address is its origin's `/`, or the line is bad
abbrev pub IsRoot : {U : Type 0} → List ℕ → Result U InputLineFault → Type 0
IsRoot address result =
    MatchResult result (λ _. path_query_of address ≡ codes "/") (λ f. (f ≡ Line) × (path_query_of address ≢ codes "/"))
