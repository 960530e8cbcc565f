-- Texts that the parts of a pattern match one by one: cuts of the text, one piece for each part.
use Rattle.std.specs.Prelude.{◌≡◌, ℕ, Bool, true, false, ◌⊎◌, ◌&&◌, ◌||◌, List, [], ◌∷◌, if◌then◌else◌}
use Rattle.std.specs.List.{AllZip, concat, list_all}

-- a run matches any piece; every part matches a piece of one octet that it takes
abbrev pub MatchesPiece : {P : Type 0} → (P → Bool) → (P → ℕ → Bool) → P → List ℕ → Type 0
MatchesPiece is_run takes part piece =
    (is_run part ≡ true) ⊎ ((octet : ℕ) × (piece ≡ octet ∷ []) × (takes part octet ≡ true))

-- the text can be cut into pieces that the parts match one by one
abbrev pub Matches : {P : Type 0} → (P → Bool) → (P → ℕ → Bool) → List P → List ℕ → Type 0
Matches is_run takes parts text =
    (pieces : List (List ℕ)) × (concat pieces ≡ text) × AllZip (MatchesPiece is_run takes) parts pieces

-- ---- the same as a value; `is_match-cuts` of `proofs/Decided.antt` says that it is the same

-- the text or some end of it passes the test
unfoldable pub some_end : (List ℕ → Bool) → List ℕ → Bool
some_end test [] = test []
some_end test (octet ∷ rest) = test (octet ∷ rest) || some_end test rest

-- the text has a first octet that passes the one test, and the rest of it passes the other
unfoldable pub first_and : (ℕ → Bool) → (List ℕ → Bool) → List ℕ → Bool
first_and takes test [] = false
first_and takes test (octet ∷ rest) = takes octet && test rest

-- whether the parts match the text: no parts the empty text, and a first part a front of it if the others match the rest
unfoldable pub is_match : {P : Type 0} → (P → Bool) → (P → ℕ → Bool) → List P → List ℕ → Bool
is_match is_run takes [] text = list_all (λ _. false) text
is_match is_run takes (part ∷ parts) text =
    if is_run part then some_end (is_match is_run takes parts) text else first_and (takes part) (is_match is_run takes parts) text
