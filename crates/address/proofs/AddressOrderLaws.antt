-- The order of addresses: what sorting by it gives, and that nothing is before itself.
use Rattle.std.proofs.Common.{◌≡◌, ℕ, ◌+◌, ◌<◌, true, false, List, [], ◌∷◌, length, get_or, map, arith, sym, ◌∙◌, ap, refl}
use Rattle.std.proofs.lemmas.Bool.{false≢true}
use Rattle.std.proofs.lemmas.List.{length-map, get_or-map}
use Rattle.std.proofs.lemmas.List.Sorted.{ranks_by, sorted_far}
use Rattle.std.proofs.lemmas.Map.Lookups.{exact_bytes}
use Rattle.std.specs.declared.cmp.Ordering.{Ordering}
use Rattle.std.specs.declared.cmp.Ordering.TheVariants.{Less, Equal, Greater}
use Rattle.std.specs.Cmp.Lexicographic.{slice_cmp, nat_list_cmp_total}
use Rattle.std.specs.List.Sorted.{IsSortedBy}
use Rattle.std.specs.Ordering.{nat_cmp, is_lt, ordering_reverse}
use Rattle.address.specs.AddressOrder.{IsBefore, IsAscending}

-- of two different texts the one that isn't before is after it
is_behind : (o r : Ordering) → r ≡ ordering_reverse o → is_lt o ≡ false → (o ≡ Equal → ⊥) → is_lt r ≡ true
is_behind Less r e h ne = absurd (false≢true (sym h))
is_behind Equal r e h ne = absurd (ne refl)
is_behind Greater r e h ne = ap is_lt e

-- what is before isn't after too
not_behind : (o r : Ordering) → r ≡ ordering_reverse o → is_lt o ≡ true → is_lt r ≡ false
not_behind Less r e h = ap is_lt e
not_behind Equal r e h = absurd (false≢true h)
not_behind Greater r e h = absurd (false≢true h)

-- no text is before itself
pub not_before_itself : (u : List ℕ) → IsBefore u u → ⊥
not_before_itself u before =
    false≢true (sym (not_behind _ _ (nat_list_cmp_total.antisymm u u) before) ∙ before)

-- of two texts one alone is before the other
pub not_before : (u v : List ℕ) → IsBefore u v → is_lt (slice_cmp nat_cmp v u) ≡ false
not_before u v before = not_behind _ _ (nat_list_cmp_total.antisymm v u) before

module _ {X : Type 0} (name : X → List ℕ) where
  -- things in the order of their names, of which no two are alike, have ascending names
  pub IsAscending-from_sorted : (xs : List X) → IsSortedBy (λ x y. is_lt (slice_cmp nat_cmp (name x) (name y))) xs
      → ((a b : ℕ) (d : X) → a < length xs → b < length xs → name (get_or xs a d) ≡ name (get_or xs b d) → a ≡ b) → IsAscending (map name xs)
  IsAscending-from_sorted [] up apart i j e lt lj = absurd (omega arith)
  IsAscending-from_sorted (x ∷ xs) up apart i j e lt lj =
      let all = x ∷ xs in
      let long : length (map name all) ≡ length all = length-map all name in
      let at_i = get_or-map name all i x e (omega arith) in
      let at_j = get_or-map name all j x e (omega arith) in
      rw (at_i, at_j) (is_behind (slice_cmp nat_cmp (name (get_or all j x)) (name (get_or all i x))) _
      (nat_list_cmp_total.antisymm (name (get_or all i x)) (name (get_or all j x)))
      (sorted_far _ (ranks_by nat_list_cmp_total name) all up i j x (omega arith) (omega arith))
      (λ q. absurd (omega (arith, apart j i x (omega arith) (omega arith) (exact_bytes _ _ q)))))

  -- things with ascending names are in the order of their names
  pub IsSortedBy-from_ascending : (xs : List X) → IsAscending (map name xs) → IsSortedBy (λ x y. is_lt (slice_cmp nat_cmp (name x) (name y))) xs
  IsSortedBy-from_ascending xs up k d low high =
      let long : length (map name xs) ≡ length xs = length-map xs name in
      let at = get_or-map name xs k d (name d) (omega arith) in
      let next = get_or-map name xs (k + 1) d (name d) (omega arith) in
      let below : IsBefore (get_or (map name xs) k (name d)) (get_or (map name xs) (k + 1) (name d)) = up k (k + 1) (name d) (omega arith) (omega arith) in
      not_before (name (get_or xs k d)) (name (get_or xs (k + 1) d))
      (ap (λ (t : List ℕ). is_lt (slice_cmp nat_cmp t (name (get_or xs (k + 1) d)))) (sym at) ∙ ap (λ (t : List ℕ). is_lt (slice_cmp nat_cmp (get_or (map name xs) k (name d)) t)) (sym next) ∙ below)
