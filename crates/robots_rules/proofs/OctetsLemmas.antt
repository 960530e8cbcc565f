-- One step of the normal form.
use Rattle.std.proofs.Common.{◌≡◌, ℕ, ◌+◌, ◌*◌, ◌≤◌, ◌<◌, Bool, false, not, List, [], ◌∷◌, ◌++◌, length, get_or, drop, sym, refl, ap, ◌∙◌, arith, append-nil}
use Rattle.std.proofs.lemmas.Bool.{and_from, and_parts, cond-true, cond-false, eq-eqb, lt-ltb, eqb-true, ltb-true, false_from_ne_true}
use Rattle.std.specs.Char.{digit_value}
use Rattle.percent_encoding.specs.Percent.{is_escape}
use Rattle.robots_rules.specs.Octets.{normal, escape_if, escaped_octet, is_unreserved}
use Rattle.robots_rules.specs.inner.Octets.{KeepsFirst}

pub normal-nil : (m : ℕ → Bool) → normal m [] ≡ []
unfolding normal
normal-nil m = refl

no_escape : (b high low : ℕ) → (b ≡ 37 → digit_value high < 16 → digit_value low < 16 → ⊥) → is_escape b high low ≡ false
no_escape b high low never =
    false_from_ne_true _ (λ e.
    let outer = and_parts _ _ e in
    let inner = and_parts _ _ outer.0 in
    never (eqb-true _ _ inner.0) (ltb-true _ _ inner.1) (ltb-true _ _ outer.1))

pub KeepsFirst_from_no_escape : (m : ℕ → Bool) (bs : List ℕ) → (3 ≤ length bs → get_or bs 0 0 ≡ 37 → digit_value (get_or bs 1 0) < 16 → digit_value (get_or bs 2 0) < 16 → ⊥) → KeepsFirst m bs
unfolding normal
KeepsFirst_from_no_escape m [] never = tt
KeepsFirst_from_no_escape m (b ∷ []) never = sym (append-nil (escape_if (m b) b))
KeepsFirst_from_no_escape m (b ∷ c ∷ []) never = refl
KeepsFirst_from_no_escape m (b ∷ high ∷ low ∷ rest) never = cond-false _ _ _ (no_escape b high low (never (omega arith)))

normal_escape : (m : ℕ → Bool) (b high low : ℕ) (rest : List ℕ) → b ≡ 37 → digit_value high < 16 → digit_value low < 16 → normal m (b ∷ high ∷ low ∷ rest) ≡ escaped_octet (16 * digit_value high + digit_value low) ++ normal m rest
unfolding normal
normal_escape m b high low rest percent hex_high hex_low =
    cond-true _ _ _ (and_from _ _ (and_from _ _ (eq-eqb _ _ percent) (lt-ltb _ _ hex_high)) (lt-ltb _ _ hex_low))

pub normal_at_escape : (m : ℕ → Bool) (bs : List ℕ) → 3 ≤ length bs → get_or bs 0 0 ≡ 37 → digit_value (get_or bs 1 0) < 16 → digit_value (get_or bs 2 0) < 16 → normal m bs ≡ escaped_octet (16 * digit_value (get_or bs 1 0) + digit_value (get_or bs 2 0)) ++ normal m (drop 3 bs)
normal_at_escape m [] long = absurd (omega arith)
normal_at_escape m (b ∷ []) long = absurd (omega arith)
normal_at_escape m (b ∷ c ∷ []) long = absurd (omega arith)
normal_at_escape m (b ∷ high ∷ low ∷ rest) long = normal_escape m b high low rest

-- ---- a path of which some octets are ready

pub nothing_left : (m : ℕ → Bool) (ready rest : List ℕ) → length ready < 1 → length rest ≡ 0 → ready ++ normal m rest ≡ []
unfolding normal
nothing_left m [] [] none end = refl
nothing_left m [] (x ∷ rest) none end = absurd (omega arith)
nothing_left m (x ∷ ready) rest none end = absurd (omega arith)

pub plain_step : (m : ℕ → Bool) (ready whole : List ℕ) (octet : ℕ) (rest : List ℕ) (escaped : Bool) (next : List ℕ) → length ready < 1 → KeepsFirst m whole → whole ≡ octet ∷ rest → escaped ≡ m octet → escape_if escaped octet ++ normal m rest ≡ next → ready ++ normal m whole ≡ next
plain_step m (x ∷ ready) whole octet rest escaped next none keeps is same given = absurd (omega arith)
plain_step m [] [] octet rest escaped next none keeps is same given = cc
plain_step m [] (x ∷ whole) octet rest escaped next none keeps is same given =
    let first : x ≡ octet = cc in
    let behind : whole ≡ rest = cc in
    keeps ∙ ap (λ y. escape_if (m y) y ++ normal m whole) first ∙ ap (λ ys. escape_if (m octet) octet ++ normal m ys) behind ∙ ap (λ b. escape_if b octet ++ normal m rest) (sym same) ∙ given

pub escape_step : (m : ℕ → Bool) (ready whole : List ℕ) (octet : ℕ) (rest : List ℕ) (escaped : Bool) (next : List ℕ) → length ready < 1 → normal m whole ≡ escaped_octet octet ++ normal m rest → escaped ≡ not (is_unreserved octet) → escape_if escaped octet ++ normal m rest ≡ next → ready ++ normal m whole ≡ next
escape_step m (x ∷ ready) whole octet rest escaped next none is same given = absurd (omega arith)
escape_step m [] whole octet rest escaped next none is same given = is ∙ ap (λ b. escape_if b octet ++ normal m rest) (sym same) ∙ given
