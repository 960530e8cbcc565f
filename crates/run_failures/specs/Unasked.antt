-- Servers that sent bytes that nobody had requested, and the lines that report them.
use Rattle.std.specs.Prelude.{ℕ, List, [], ◌∷◌, ◌++◌, bytes_eq, codes, if◌then◌else◌}
use Rattle.std.specs.List.{list_any}
use Rattle.address.specs.Address.{OriginText}

-- these origins, and this one, each once
abbrev pub with_origin : List OriginText → OriginText → List OriginText
with_origin origins of = if list_any (λ one. bytes_eq one of) origins then origins else origins ++ of ∷ []

-- the line of an origin
abbrev pub unasked_line : OriginText → List ℕ
unasked_line of = of ++ codes " sent bytes that nobody had requested: no connection to it is used again\n"
