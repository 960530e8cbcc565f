-- The outcome of an address, as a search by halves finds it.
use Rattle.std.proofs.Common.{zero, suc, ◌≡◌, ◌≢◌, ℕ, ◌+◌, ◌<◌, inl, inr, List, [], ◌∷◌, length, get_or, Option, Some, None, Result, Ok, Err, refl, sym, ap, ◌∙◌, subst, arith}
use Rattle.std.proofs.lemmas.Bool.{cases_lt, cond-true, cond-false, false_from_ne_true}
use Rattle.std.proofs.lemmas.List.{length-map}
use Rattle.std.proofs.lemmas.List.Sorted.{searchable_from_sorted}
use Rattle.std.proofs.lemmas.Map.Lookups.{exact_bytes}
use Rattle.std.proofs.lemmas.Slice.Eq.{bytes_eq-Decides}
use Rattle.std.specs.Cmp.Lexicographic.{slice_cmp, nat_list_cmp_total}
use Rattle.std.specs.List.Sorted.{IsBinarySearchResult, IsSearchInRange}
use Rattle.std.specs.Option.{option_map}
use Rattle.std.specs.Ordering.{nat_cmp, ordering_reverse}
use Rattle.std.specs.Result.{result_ok}
use Rattle.std.specs.Str.{bytes_eq}
use Rattle.std.specs.declared.cmp.Ordering.{Ordering}
use Rattle.std.specs.declared.cmp.Ordering.TheVariants.{Less, Equal, Greater}
use Rattle.address.specs.Address.{AddressText}
use Rattle.address.specs.AddressOrder.{IsBefore, IsAscending}
use Rattle.address.proofs.AddressOrderLaws.{not_before_itself, IsSortedBy-from_ascending}
use Rattle.fetcher.specs.declared.outcome.Outcome.{Outcome}
use Rattle.run_mirror.specs.Mirrors.{Recorded, recorded_addresses, outcome_among}

-- a text is neither less nor more than itself
compare_same : (u : AddressText) → (slice_cmp nat_cmp u u ≡ Less → ⊥) × (slice_cmp nat_cmp u u ≡ Greater → ⊥)
compare_same u = go (slice_cmp nat_cmp u u) (nat_list_cmp_total.antisymm u u)
  where
    go : (o : Ordering) → o ≡ ordering_reverse o → (o ≡ Less → ⊥) × (o ≡ Greater → ⊥)
    go Less e = cc
    go Equal e = ((λ h. cc), (λ h. cc))
    go Greater e = cc

-- another address is passed over
passed_over : (recorded : Recorded) (records : List Recorded) (u : AddressText) → recorded.0 ≢ u → outcome_among (recorded ∷ records) u ≡ outcome_among records u
passed_over recorded records u differs =
    cond-false (bytes_eq recorded.0 u) (Some recorded.1) (outcome_among records u) (false_from_ne_true (bytes_eq recorded.0 u) (λ e. differs ((bytes_eq-Decides recorded.0 u).0 e)))

-- an address that comes before another is another
before_differs : (one u : AddressText) → IsBefore one u → one ≢ u
before_differs one u before same = not_before_itself u (subst (λ (v : AddressText). IsBefore v u) same before)

-- those that follow ascend too
behind_first : (recorded : Recorded) (records : List Recorded) → IsAscending (recorded_addresses (recorded ∷ records)) → IsAscending (recorded_addresses records)
behind_first recorded records up = λ a b d less within. up (suc a) (suc b) d (omega arith) (omega arith)

-- the first comes before any later one
first_before : (recorded : Recorded) (records : List Recorded) (i : ℕ) (d : Recorded) → IsAscending (recorded_addresses (recorded ∷ records)) → i < length records
    → IsBefore recorded.0 (get_or records i d).0
first_before recorded (next ∷ records) zero d up below = up 0 1 [] (omega arith) (omega (arith, length-map records (λ (r : Recorded). r.0)))
first_before recorded [] i d up below = absurd (omega arith)
first_before recorded (next ∷ records) (suc i) d up below =
    first_before recorded records i d
    (λ a b e less within. skip a b e less within) (omega arith) where
      skip : (a b : ℕ) (e : AddressText) → a < b → b < length (recorded_addresses (recorded ∷ records))
          → IsBefore (get_or (recorded_addresses (recorded ∷ records)) a e) (get_or (recorded_addresses (recorded ∷ records)) b e)
      skip a zero e less within = absurd (omega arith)
      skip zero (suc b) e less within = up 0 (suc (suc b)) e (omega arith) (omega arith)
      skip (suc a) (suc b) e less within = up (suc (suc a)) (suc (suc b)) e (omega arith) (omega arith)

-- the outcome of the address at a place
pub outcome_at : (records : List Recorded) (i : ℕ) (u : AddressText) (d : Recorded) → IsAscending (recorded_addresses records) → i < length records → (get_or records i d).0 ≡ u
    → outcome_among records u ≡ Some (get_or records i d).1
outcome_at [] i u d up below is = absurd (omega arith)
outcome_at (recorded ∷ records) zero u d up below is = cond-true (bytes_eq recorded.0 u) (Some recorded.1) (outcome_among records u) ((bytes_eq-Decides recorded.0 u).1 is)
outcome_at (recorded ∷ records) (suc i) u d up below is =
    passed_over recorded records u (before_differs recorded.0 u (subst (λ (v : AddressText). IsBefore recorded.0 v) is (first_before recorded records i d up (omega arith))))
    ∙ outcome_at records i u d (behind_first recorded records up) (omega arith) is

-- an address that is nowhere has no outcome
pub no_outcome : (records : List Recorded) (u : AddressText) (d : Recorded) → ((i : ℕ) → i < length records → (get_or records i d).0 ≢ u) → outcome_among records u ≡ None
no_outcome [] u d none = refl
no_outcome (recorded ∷ records) u d none =
    passed_over recorded records u (none 0 (omega arith)) ∙ no_outcome records u d (λ i below. none (suc i) (omega arith))

-- what the search finds
pub outcome_found : (records : List Recorded) (u : AddressText) (r : Result ℕ ℕ) (d : Recorded) → IsAscending (recorded_addresses records) → IsSearchInRange r (length records)
    → IsBinarySearchResult (λ (x : Recorded). slice_cmp nat_cmp x.0 u) records r → outcome_among records u ≡ option_map (λ i. (get_or records i d).1) (result_ok r)
outcome_found records u (Ok i) d up within found = outcome_at records i u d up within (exact_bytes (get_or records i d).0 u (found d))
outcome_found records u (Err i) d up within found =
    let parts = found (searchable_from_sorted nat_list_cmp_total (λ (x : Recorded). x.0) records u (IsSortedBy-from_ascending (λ (x : Recorded). x.0) records up)) in
    no_outcome records u d (λ k below is. elim (cases_lt k i) [
      | inl before ↦ (compare_same u).0 (ap (λ (w : AddressText). slice_cmp nat_cmp w u) (sym is) ∙ parts.0 k d (omega arith) before)
      | inr after ↦ (compare_same u).1 (ap (λ (w : AddressText). slice_cmp nat_cmp w u) (sym is) ∙ parts.1 k d after below)
    ])
