-- What proofs alone need beside `Tables`.
use Rattle.std.specs.Prelude.{◌≡◌, ℕ, List, None, Result, IsSome, MatchResult}
use Rattle.std.specs.Str.{bytes_eq}
use Rattle.std.specs.Map.{lookup}
use Rattle.site_inputs.specs.declared.input_fault.InputLineFault.{InputLineFault}
use Rattle.site_inputs.specs.declared.input_fault.InputLineFault.TheVariants.{Line}

-- the key has no entry, or the line is bad
abbrev pub IsVacant : {U V : Type 0} → List (List ℕ × V) → List ℕ → Result U InputLineFault → Type 0
IsVacant entries key result =
    MatchResult result (λ _. lookup (bytes_eq key) entries ≡ None) (λ f. (f ≡ Line) × IsSome (lookup (bytes_eq key) entries))
