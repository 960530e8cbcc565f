-- The name of a page among those that are kept, as a search by halves finds it.
use Rattle.std.proofs.Common.{zero, suc, ◌≡◌, ◌≢◌, ℕ, ◌+◌, ◌<◌, inl, inr, List, [], ◌∷◌, length, get_or, Option, Some, None, Result, Ok, Err, refl, sym, ap, ◌∙◌, subst, arith}
use Rattle.std.proofs.lemmas.Bool.{cases_lt, cond-true, cond-false, false_from_ne_true}
use Rattle.std.proofs.lemmas.List.Sorted.{searchable_from_sorted}
use Rattle.std.proofs.lemmas.Map.Lookups.{exact_bytes}
use Rattle.std.proofs.lemmas.Slice.Eq.{bytes_eq-Decides}
use Rattle.std.specs.Cmp.Lexicographic.{slice_cmp, nat_list_cmp_total}
use Rattle.std.specs.List.Sorted.{IsSortedBy, IsBinarySearchResult, IsSearchInRange}
use Rattle.std.specs.Option.{option_map}
use Rattle.std.specs.Ordering.{nat_cmp, is_lt, ordering_reverse}
use Rattle.std.specs.Result.{result_ok}
use Rattle.std.specs.Str.{bytes_eq}
use Rattle.std.specs.declared.cmp.Ordering.{Ordering}
use Rattle.std.specs.declared.cmp.Ordering.TheVariants.{Less, Equal, Greater}
use Rattle.address.specs.Address.{AddressText}
use Rattle.address.specs.AddressOrder.{IsBefore, IsAscending}
use Rattle.address.proofs.AddressOrderLaws.{not_before, not_before_itself}
use Rattle.run_mirror.specs.Mirrors.{name_among}

-- a text is neither less nor more than itself
compare_same : (u : AddressText) → (slice_cmp nat_cmp u u ≡ Less → ⊥) × (slice_cmp nat_cmp u u ≡ Greater → ⊥)
compare_same u = go (slice_cmp nat_cmp u u) (nat_list_cmp_total.antisymm u u)
  where
    go : (o : Ordering) → o ≡ ordering_reverse o → (o ≡ Less → ⊥) × (o ≡ Greater → ⊥)
    go Less e = cc
    go Equal e = ((λ h. cc), (λ h. cc))
    go Greater e = cc

sorted_pages : (kept : List AddressText) → IsAscending kept → IsSortedBy (λ (x y : AddressText). is_lt (slice_cmp nat_cmp x y)) kept
sorted_pages kept up k d low high =
    not_before (get_or kept k d) (get_or kept (k + 1) d) (up k (k + 1) d (omega arith) (omega arith))

-- another page's name is passed over
passed_over : (page : AddressText) (name : List ℕ) (kept : List AddressText) (names : List (List ℕ)) (u : AddressText) → page ≢ u → name_among (page ∷ kept) (name ∷ names) u ≡ name_among kept names u
passed_over page name kept names u differs =
    cond-false (bytes_eq page u) (Some name) (name_among kept names u) (false_from_ne_true (bytes_eq page u) (λ e. differs ((bytes_eq-Decides page u).0 e)))

-- a page that is before another is another
before_differs : (page u : AddressText) → IsBefore page u → page ≢ u
before_differs page u before same = not_before_itself u (subst (λ (v : AddressText). IsBefore v u) same before)

-- the name of the page at a place
pub name_at : (kept : List AddressText) (names : List (List ℕ)) (i : ℕ) (u : AddressText) → IsAscending kept → length names ≡ length kept → i < length kept → get_or kept i [] ≡ u → name_among kept names u ≡ Some (get_or names i [])
name_at [] names i u up long below is = absurd (omega arith)
name_at (page ∷ kept) [] i u up long below is = absurd (omega arith)
name_at (page ∷ kept) (name ∷ names) zero u up long below is = cond-true (bytes_eq page u) (Some name) (name_among kept names u) ((bytes_eq-Decides page u).1 is)
name_at (page ∷ kept) (name ∷ names) (suc i) u up long below is =
    passed_over page name kept names u (before_differs page u (subst (λ (v : AddressText). IsBefore page v) is (up 0 (suc i) [] (omega arith) (omega arith))))
    ∙ name_at kept names i u (λ a b d less within. up (suc a) (suc b) d (omega arith) (omega arith)) (omega arith) (omega arith) is

-- a page that is at no place has no name
pub no_name : (kept : List AddressText) (names : List (List ℕ)) (u : AddressText) → ((i : ℕ) → i < length kept → get_or kept i [] ≢ u) → name_among kept names u ≡ None
no_name [] names u none = refl
no_name (page ∷ kept) [] u none = refl
no_name (page ∷ kept) (name ∷ names) u none =
    passed_over page name kept names u (none 0 (omega arith)) ∙ no_name kept names u (λ i below. none (suc i) (omega arith))

-- what the search finds
pub name_found : (kept : List AddressText) (names : List (List ℕ)) (u : AddressText) (r : Result ℕ ℕ) → IsAscending kept → length names ≡ length kept → IsSearchInRange r (length kept)
    → IsBinarySearchResult (λ (x : AddressText). slice_cmp nat_cmp x u) kept r → name_among kept names u ≡ option_map (λ i. get_or names i []) (result_ok r)
name_found kept names u (Ok i) up long within found = name_at kept names i u up long within (exact_bytes (get_or kept i []) u (found []))
name_found kept names u (Err i) up long within found =
    let parts = found (searchable_from_sorted nat_list_cmp_total (λ (x : AddressText). x) kept u (sorted_pages kept up)) in
    no_name kept names u (λ k below is. elim (cases_lt k i) [
      | inl before ↦ (compare_same u).0 (ap (λ (w : AddressText). slice_cmp nat_cmp w u) (sym is) ∙ parts.0 k [] (omega arith) before)
      | inr after ↦ (compare_same u).1 (ap (λ (w : AddressText). slice_cmp nat_cmp w u) (sym is) ∙ parts.1 k [] after below)
    ])
