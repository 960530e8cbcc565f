-- The place of an address among records in address order.
use Rattle.std.proofs.Common.{◌≡◌, ℕ, ◌<◌, inl, inr, List, length, get_or, Some, Result, Ok, Err, arith, sym, ◌∙◌, ap}
use Rattle.std.specs.Result.{result_ok}
use Rattle.std.proofs.lemmas.Bool.{cases_lt}
use Rattle.std.proofs.lemmas.List.{length-map, get_or-map}
use Rattle.std.proofs.lemmas.List.Sorted.{searchable_from_sorted}
use Rattle.std.proofs.lemmas.Map.Lookups.{exact_bytes}
use Rattle.std.specs.declared.cmp.Ordering.{Ordering}
use Rattle.std.specs.declared.cmp.Ordering.TheVariants.{Less, Equal, Greater}
use Rattle.std.specs.Cmp.Lexicographic.{slice_cmp, nat_list_cmp_total}
use Rattle.std.proofs.lemmas.Option.{slice_get-get_or}
use Rattle.std.proofs.lemmas.Slice.Eq.{bytes_eq-Decides}
use Rattle.std.specs.Prelude.{bytes_eq, IsTrue}
use Rattle.std.specs.List.Sorted.{IsBinarySearchResult, IsSearchInRange}
use Rattle.std.specs.Ordering.{nat_cmp, ordering_reverse}
use Rattle.fetcher.specs.declared.outcome.Outcome.TheVariants.{Leaf}
use Rattle.frontier_core.specs.Tables.{Text}
use Rattle.frontier_core.specs.Readers.{Recorded}
use Rattle.harvest.specs.Entries.{recorded_addresses, IsPlaceOf}
use Rattle.address.specs.AddressOrder.{IsAscending}
use Rattle.address.proofs.AddressOrderLaws.{IsSortedBy-from_ascending}

-- a text isn't less than itself
compare_same : (u : Text) → (slice_cmp nat_cmp u u ≡ Less → ⊥) × (slice_cmp nat_cmp u u ≡ Greater → ⊥)
compare_same u = go (slice_cmp nat_cmp u u) (nat_list_cmp_total.antisymm u u)
  where
    go : (o : Ordering) → o ≡ ordering_reverse o → (o ≡ Less → ⊥) × (o ≡ Greater → ⊥)
    go Less e = cc
    go Equal e = ((λ h. cc), (λ h. cc))
    go Greater e = cc

some_record : Text → Recorded
some_record u = (u, Leaf 0)

-- if the address is at a place, that is its place
pub place_here : (records : List Recorded) (u : Text) (k : ℕ) (d : Recorded) → k < length records → IsTrue (bytes_eq (get_or records k d).0 u) → IsPlaceOf records u (Some k)
place_here records u k d within same =
    let at : Recorded = get_or records k d in
    (at.1, slice_get-get_or records k d within ∙ ap (λ (w : Text). Some (w, at.1)) ((bytes_eq-Decides at.0 u).0 same))

-- what a binary search by the address finds
pub place_found : (records : List Recorded) (u : Text) (r : Result ℕ ℕ) → IsAscending (recorded_addresses records) → IsSearchInRange r (length records)
    → IsBinarySearchResult (λ (x : Recorded). slice_cmp nat_cmp x.0 u) records r → IsPlaceOf records u (result_ok r)
place_found records u (Ok i) up within found =
    let at : Recorded = get_or records i (some_record u) in
    let is : at.0 ≡ u = exact_bytes at.0 u (found (some_record u)) in
    (at.1, slice_get-get_or records i (some_record u) within ∙ ap (λ (w : Text). Some (w, at.1)) is)
place_found records u (Err i) up within found = λ among.
    let parts = found (searchable_from_sorted nat_list_cmp_total (λ (x : Recorded). x.0) records u (IsSortedBy-from_ascending (λ (x : Recorded). x.0) records up)) in
    let (k, lt, is) = among in
    let key : Recorded → Text = λ recorded. recorded.0 in
    let here : k < length records = omega (arith, length-map records key) in
    let named : (get_or records k (some_record u)).0 ≡ u = sym (get_or-map key records k (some_record u) u here) ∙ is in
    elim (cases_lt k i) [
      | inl before ↦ (compare_same u).0 (ap (λ (w : Text). slice_cmp nat_cmp w u) (sym named) ∙ parts.0 k (some_record u) (omega arith) before)
      | inr after ↦ (compare_same u).1 (ap (λ (w : Text). slice_cmp nat_cmp w u) (sym named) ∙ parts.1 k (some_record u) after here)
    ]
