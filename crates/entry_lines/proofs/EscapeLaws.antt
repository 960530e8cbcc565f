-- What is escaped has no zero and no line feed, and is read back.
use Rattle.std.proofs.Common.{◌≡◌, ◌≢◌, ◌≤◌, ◌*◌, Global, Ok, Err, Result, Vec, inl, inr, ℕ, List, [], ◌∷◌, ◌++◌, length, refl, sym, ◌∙◌, ap, subst, arith}
use Rattle.std.proofs.lemmas.Bool.{cases_eq}
use Rattle.std.proofs.lemmas.Bool.Decides.{nat_tests}
use Rattle.std.proofs.lemmas.List.{length-append}
use Rattle.std.specs.Prelude.{IfOk}
use Rattle.std.specs.declared.alloc.AllocError.{AllocError}
use Rattle.entry_lines.specs.Lines.{ArePlain}
use Rattle.entry_lines.specs.Escapes.{written, escaped, read_back, HasNoSpace}
use Rattle.entry_lines.proofs.LineLaws.{are_plain-append}

pub written_other : (x : ℕ) → x ≢ 0 → x ≢ 10 → x ≢ 92 → x ≢ 32 → written x ≡ x ∷ []
written_other x a b d s = grind (arith, nat_tests)

pub read_other : (x : ℕ) (xs : List ℕ) → x ≢ 92 → read_back (x ∷ xs) ≡ x ∷ read_back xs
read_other x [] d = refl
read_other x (c ∷ xs) d = grind (arith, nat_tests)

pub plain_written : (x : ℕ) → ArePlain (written x)
plain_written x = elim (cases_eq x 0) [
  | inl is ↦ subst (λ (b : ℕ). ArePlain (written b)) (sym is) (omega arith, omega arith, (omega arith, omega arith, tt))
  | inr a ↦ elim (cases_eq x 10) [
    | inl is ↦ subst (λ (b : ℕ). ArePlain (written b)) (sym is) (omega arith, omega arith, (omega arith, omega arith, tt))
    | inr b ↦ elim (cases_eq x 92) [
      | inl is ↦ subst (λ (b : ℕ). ArePlain (written b)) (sym is) (omega arith, omega arith, (omega arith, omega arith, tt))
      | inr d ↦ elim (cases_eq x 32) [
        | inl is ↦ subst (λ (b : ℕ). ArePlain (written b)) (sym is) (omega arith, omega arith, (omega arith, omega arith, tt))
        | inr s ↦ subst ArePlain (sym (written_other x a b d s)) (a, b, tt)
      ]
    ]
  ]
]

pub plain_escaped : (xs : List ℕ) → ArePlain (escaped xs)
plain_escaped [] = tt
plain_escaped (x ∷ xs) = are_plain-append (written x) (escaped xs) (plain_written x) (plain_escaped xs)

read_written : (x : ℕ) (xs : List ℕ) → read_back (written x ++ xs) ≡ x ∷ read_back xs
read_written x xs = elim (cases_eq x 0) [
  | inl is ↦ subst (λ (b : ℕ). read_back (written b ++ xs) ≡ b ∷ read_back xs) (sym is) refl
  | inr a ↦ elim (cases_eq x 10) [
    | inl is ↦ subst (λ (b : ℕ). read_back (written b ++ xs) ≡ b ∷ read_back xs) (sym is) refl
    | inr b ↦ elim (cases_eq x 92) [
      | inl is ↦ subst (λ (b : ℕ). read_back (written b ++ xs) ≡ b ∷ read_back xs) (sym is) refl
      | inr d ↦ elim (cases_eq x 32) [
        | inl is ↦ subst (λ (b : ℕ). read_back (written b ++ xs) ≡ b ∷ read_back xs) (sym is) refl
        | inr s ↦ ap (λ (l : List ℕ). read_back (l ++ xs)) (written_other x a b d s) ∙ read_other x xs d
      ]
    ]
  ]
]

pub read_escaped : (xs : List ℕ) → read_back (escaped xs) ≡ xs
read_escaped [] = refl
read_escaped (x ∷ xs) = read_written x (escaped xs) ∙ ap (λ (l : List ℕ). x ∷ l) (read_escaped xs)

-- nor has it a space
pub no_space-append : (xs ys : List ℕ) → HasNoSpace xs → HasNoSpace ys → HasNoSpace (xs ++ ys)
no_space-append [] ys a b = b
no_space-append (x ∷ xs) ys a b = (a.0, no_space-append xs ys a.1 b)

no_space_written : (x : ℕ) → HasNoSpace (written x)
no_space_written x = elim (cases_eq x 0) [
  | inl is ↦ subst (λ (b : ℕ). HasNoSpace (written b)) (sym is) (omega arith, (omega arith, tt))
  | inr a ↦ elim (cases_eq x 10) [
    | inl is ↦ subst (λ (b : ℕ). HasNoSpace (written b)) (sym is) (omega arith, (omega arith, tt))
    | inr b ↦ elim (cases_eq x 92) [
      | inl is ↦ subst (λ (b : ℕ). HasNoSpace (written b)) (sym is) (omega arith, (omega arith, tt))
      | inr d ↦ elim (cases_eq x 32) [
        | inl is ↦ subst (λ (b : ℕ). HasNoSpace (written b)) (sym is) (omega arith, (omega arith, tt))
        | inr s ↦ subst HasNoSpace (sym (written_other x a b d s)) (s, tt)
      ]
    ]
  ]
]

pub no_space_escaped : (xs : List ℕ) → HasNoSpace (escaped xs)
no_space_escaped [] = tt
no_space_escaped (x ∷ xs) = no_space-append (written x) (escaped xs) (no_space_written x) (no_space_escaped xs)

-- each byte is written as two at most
length_written : (x : ℕ) → length (written x) ≤ 2
length_written x = elim (cases_eq x 0) [
  | inl is ↦ subst (λ (b : ℕ). length (written b) ≤ 2) (sym is) (omega arith)
  | inr a ↦ elim (cases_eq x 10) [
    | inl is ↦ subst (λ (b : ℕ). length (written b) ≤ 2) (sym is) (omega arith)
    | inr b ↦ elim (cases_eq x 92) [
      | inl is ↦ subst (λ (b : ℕ). length (written b) ≤ 2) (sym is) (omega arith)
      | inr d ↦ elim (cases_eq x 32) [
        | inl is ↦ subst (λ (b : ℕ). length (written b) ≤ 2) (sym is) (omega arith)
        | inr s ↦ subst (λ (l : List ℕ). length l ≤ 2) (sym (written_other x a b d s)) (omega arith)
      ]
    ]
  ]
]

pub length_escaped : (xs : List ℕ) → length (escaped xs) ≤ 2 * length xs
length_escaped [] = omega arith
length_escaped (x ∷ xs) = omega (arith, length-append (written x) (escaped xs), length_written x, length_escaped xs)

-- what was escaped is read back
pub read_back_of : (read : Result (Vec ℕ Global) AllocError) (bytes : List ℕ) → IfOk read (λ v. v.items ≡ read_back bytes) → IfOk read (λ v. (x : List ℕ) → bytes ≡ escaped x → v.items ≡ x)
read_back_of (Ok v) bytes is = λ x same. is ∙ ap read_back same ∙ read_escaped x
read_back_of (Err e) bytes is = tt
