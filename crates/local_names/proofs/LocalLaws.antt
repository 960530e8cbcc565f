-- Names that lead nowhere but below their folder, as a test and as a statement.
use Rattle.std.proofs.Common.{◌≡◌, ◌↔◌, ℕ, Bool, true, false, not, ◌||◌, List, [], ◌∷◌, codes, All, IsTrue, refl, sym, ap, ◌∙◌, inl, inr, bytes_eq}
use Rattle.std.proofs.lemmas.Bool.{both_ways, false_from_ne_true, or_cases}
use Rattle.std.proofs.lemmas.List.Elements.{All-nil, All-cons, All-head, All-tail}
use Rattle.std.proofs.lemmas.Slice.Eq.{bytes_eq-Decides}
use Rattle.std.specs.List.{list_any}
use Rattle.local_names.specs.LocalNames.{IsInner}
use Rattle.local_names.specs.inner.LocalNames.{is_outer}

inner_from_test : (segment : List ℕ) → is_outer segment ≡ false → IsInner segment
inner_from_test segment inside =
    record {
      present = λ e. both_ways (is_outer segment) inside (ap is_outer e);
      not_here = λ e. both_ways (is_outer segment) inside (ap is_outer e);
      not_above = λ e. both_ways (is_outer segment) inside (ap is_outer e);
    }

test_from_inner : (segment : List ℕ) → IsInner segment → is_outer segment ≡ false
test_from_inner segment inner =
    false_from_ne_true (is_outer segment) (λ outer.
    elim (or_cases (bytes_eq segment [] || bytes_eq segment (codes ".")) (bytes_eq segment (codes "..")) outer) [
      | inl first ↦ elim (or_cases (bytes_eq segment []) (bytes_eq segment (codes ".")) first) [
        | inl none ↦ inner.present ((bytes_eq-Decides segment []).0 none)
        | inr here ↦ inner.not_here ((bytes_eq-Decides segment (codes ".")).0 here)
      ]
      | inr above ↦ inner.not_above ((bytes_eq-Decides segment (codes "..")).0 above)
    ])

neither : (a b : Bool) → (a || b) ≡ false → (a ≡ false) × (b ≡ false)
neither true b e = cc
neither false b e = (refl, e)

all_inner : (parts : List (List ℕ)) → list_any is_outer parts ≡ false → All IsInner parts
all_inner [] none = All-nil IsInner
all_inner (part ∷ parts) none =
    let both = neither (is_outer part) (list_any is_outer parts) none in
    All-cons IsInner part parts (inner_from_test part both.0) (all_inner parts both.1)

none_outer : (parts : List (List ℕ)) → All IsInner parts → list_any is_outer parts ≡ false
none_outer [] all = refl
none_outer (part ∷ parts) all =
    ap (λ b. b || list_any is_outer parts) (test_from_inner part (All-head IsInner part parts all)) ∙ none_outer parts (All-tail IsInner part parts all)

not_true : (b : Bool) → not b ≡ true → b ≡ false
not_true true e = cc
not_true false e = refl

pub local_name : (b : Bool) (parts : List (List ℕ)) → b ≡ list_any is_outer parts → IsTrue (not b) ↔ All IsInner parts
local_name b parts is =
    (λ inside. all_inner parts (sym is ∙ not_true b inside), λ all. ap not (is ∙ none_outer parts all))
