-- The addresses and the origins that lines name (URL Standard, section 4.4; RFC 9309, section 2.3).
use Rattle.std.specs.Prelude.{◌≡◌, ◌≢◌, ℕ, ◌⊎◌, List, [], Result, Ok, IsOk, MatchResult, codes}
use Rattle.std.specs.Result.{result_unwrap_or}
use Rattle.address.specs.Address.{read_address, read_either, origin_of, path_query_of}
use Rattle.site_inputs.specs.declared.input_fault.InputLineFault.{InputLineFault}
use Rattle.site_inputs.specs.declared.input_fault.InputLineFault.TheVariants.{Line, Address, Memory}

-- the address as which a text reads
abbrev pub named : List ℕ → List ℕ
named text = result_unwrap_or (read_address text) []

-- the text reads as an address (URL Standard, section 4.4)
abbrev pub IsNamed : List ℕ → Type 0
IsNamed text = IsOk (read_address text)

-- the text is read as this address, or is refused
abbrev pub Names : List ℕ → Result (List ℕ) InputLineFault → Type 0
Names text result =
    MatchResult result (λ address. read_address text ≡ Ok address) (λ f. (f ≡ Memory) ⊎ ((f ≡ Address) × ¬ IsNamed text))

-- the text is read as the address of this origin's `/`, or is refused
abbrev pub NamesOrigin : List ℕ → Result (List ℕ) InputLineFault → Type 0
NamesOrigin text result =
    MatchResult result
    (λ origin. IsNamed text × (path_query_of (named text) ≡ codes "/") × (origin_of (named text) ≡ origin))
    (λ f. (f ≡ Memory) ⊎ ((f ≡ Address) × ¬ IsNamed text) ⊎ ((f ≡ Line) × IsNamed text × (path_query_of (named text) ≢ codes "/")))

-- ---- what records name, which may be https addresses too

-- the address as which a text of a record reads
abbrev pub recorded : List ℕ → List ℕ
recorded text = result_unwrap_or (read_either text) []

-- the text reads as an address there
abbrev pub IsRecorded : List ℕ → Type 0
IsRecorded text = IsOk (read_either text)

-- the text is read as this address, or is refused
abbrev pub Records : List ℕ → Result (List ℕ) InputLineFault → Type 0
Records text result =
    MatchResult result (λ address. read_either text ≡ Ok address) (λ f. (f ≡ Memory) ⊎ ((f ≡ Address) × ¬ IsRecorded text))

-- the text is read as the address of this origin's `/`, or is refused
abbrev pub RecordsOrigin : List ℕ → Result (List ℕ) InputLineFault → Type 0
RecordsOrigin text result =
    MatchResult result
    (λ origin. IsRecorded text × (path_query_of (recorded text) ≡ codes "/") × (origin_of (recorded text) ≡ origin))
    (λ f. (f ≡ Memory) ⊎ ((f ≡ Address) × ¬ IsRecorded text) ⊎ ((f ≡ Line) × IsRecorded text × (path_query_of (recorded text) ≢ codes "/")))
