-- What proofs alone need beside `Cuts`.
use Rattle.std.specs.Prelude.{ℕ, Bool, not, count_by, List}

-- how many parts take one octet each: a text that the parts match has as many octets or more
abbrev pub least_octets : {P : Type 0} → (P → Bool) → List P → ℕ
least_octets is_run parts = count_by (λ part. not (is_run part)) parts
