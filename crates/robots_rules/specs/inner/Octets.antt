-- What proofs alone need beside `Octets`.
use Rattle.std.specs.Prelude.{ℕ, ◌+◌, Bool, List, [], ◌∷◌, ◌++◌, ◌≡◌, ⊤, Option, MatchOption}
use Rattle.std.specs.Borrow.{Bor}
use Rattle.robots_rules.specs.Octets.{escape_if, escaped_octet, normal}

-- the text is empty, or its first octet means itself
abbrev pub KeepsFirst : (ℕ → Bool) → List ℕ → Type 0
KeepsFirst must_escape [] = ⊤
KeepsFirst must_escape (a ∷ rest) = normal must_escape (a ∷ rest) ≡ escape_if (must_escape a) a ++ normal must_escape rest

-- the text begins with an escape of this octet and goes on with this rest, or begins with no escape
abbrev pub SplitsEscape : (ℕ → Bool) → List ℕ → Option (ℕ × Bor (List ℕ)) → Type 0
SplitsEscape must_escape text r =
    MatchOption r (KeepsFirst must_escape text) (λ x. normal must_escape text ≡ escaped_octet x.0 ++ normal must_escape x.1.now)
