-- Which entries may follow others.
use Rattle.std.proofs.Common.{◌≡◌, ◌<◌, ◌+◌, ◌-◌, ℕ, zero, suc, true, inl, inr, List, [], ◌∷◌, ◌++◌, length, get_or, Ok, Err, refl, sym, ◌∙◌, ap, subst, arith}
use Rattle.std.proofs.lemmas.Bool.{cases_lt}
use Rattle.std.proofs.lemmas.List.{length-append}
use Rattle.std.proofs.lemmas.List.Elements.{All-push}
use Rattle.std.proofs.Math.ListN.{get_or-append}
use Rattle.std.proofs.Math.Seq.{get_or-append_seam}
use Rattle.std.proofs.lemmas.List.Sorted.{searchable_from_sorted}
use Rattle.std.proofs.lemmas.Map.Lookups.{exact_bytes}
use Rattle.std.specs.Cmp.Lexicographic.{slice_cmp, nat_list_cmp_total}
use Rattle.std.specs.List.Sorted.{IsBinarySearchResult, IsSortedBy}
use Rattle.std.specs.Ordering.{is_lt, nat_cmp, ordering_reverse}
use Rattle.std.specs.declared.cmp.Ordering.{Ordering}
use Rattle.std.specs.declared.cmp.Ordering.TheVariants.{Less, Equal, Greater}
use Rattle.address.specs.Address.{AddressText}
use Rattle.address.specs.AddressOrder.{IsBefore}
use Rattle.address.proofs.AddressOrderLaws.{not_before}
use Rattle.mirror_index.specs.Entries.{Entry, IsEntry}
use Rattle.mirror_index.specs.Indexes.{Follows, HasNone, HasThis, IsInOrder, IsIndex}
use Rattle.mirror_index.specs.declared.index.TheConstants.{MAX_ENTRIES}

one_longer : (es : List Entry) (e : Entry) → length (es ++ e ∷ []) ≡ length es + 1
one_longer es e = length-append es (e ∷ [])

at_end : (es : List Entry) (e : Entry) (k : ℕ) (d : Entry) → k ≡ length es → get_or (es ++ e ∷ []) k d ≡ e
at_end es e k d is = subst (λ (n : ℕ). get_or (es ++ e ∷ []) n d ≡ e) (sym is) (get_or-append_seam es e [] d)

order_more : (es : List Entry) (e : Entry) → IsInOrder es → Follows es e → IsInOrder (es ++ e ∷ [])
order_more es e order follows k d within = elim (cases_lt (k + 1) (length es)) [
  | inl before ↦ rw (get_or-append es (e ∷ []) d k (omega arith), get_or-append es (e ∷ []) d (k + 1) before) (order k d before)
  | inr after ↦ (
      let last : k + 1 ≡ length es = omega (arith, one_longer es e) in
      let place : k ≡ length es - 1 = omega arith in
      rw (get_or-append es (e ∷ []) d k (omega arith), at_end es e (k + 1) d last)
      (subst (λ (n : ℕ). IsBefore (get_or es n d).address e.address) (sym place) (follows d (omega arith))))
]

pub one_more : (es : List Entry) (e : Entry) → IsIndex es → length es < MAX_ENTRIES → Follows es e → IsEntry e → IsIndex (es ++ e ∷ [])
one_more es e index room follows is = record {
  each = All-push IsEntry es e index.each is;
  order = order_more es e index.order follows;
  few = omega (arith, one_longer es e);
}

pub last_is : (es : List Entry) (e : Entry) → IsIndex (es ++ e ∷ []) → IsEntry e
last_is es e index = subst IsEntry (get_or-append_seam es e [] e) (index.each (length es) e (omega (arith, one_longer es e)))

pub last_has_room : (es : List Entry) (e : Entry) → IsIndex (es ++ e ∷ []) → length es < MAX_ENTRIES
last_has_room es e index = let few = index.few in omega (arith, one_longer es e)

pub last_follows : (es : List Entry) (e : Entry) → IsIndex (es ++ e ∷ []) → Follows es e
last_follows es e index d some =
    let before = index.order (length es - 1) d (omega (arith, one_longer es e)) in
    let first : get_or (es ++ e ∷ []) (length es - 1) d ≡ get_or es (length es - 1) d = get_or-append es (e ∷ []) d (length es - 1) (omega arith) in
    let second : get_or (es ++ e ∷ []) (length es - 1 + 1) d ≡ e = at_end es e (length es - 1 + 1) d (omega arith) in
    subst (λ (x : Entry). IsBefore (get_or es (length es - 1) d).address x.address) second
    (subst (λ (x : Entry). IsBefore x.address (get_or (es ++ e ∷ []) (length es - 1 + 1) d).address) first before)

-- a front of an index is one
pub front_is : (es later : List Entry) → IsIndex (es ++ later) → IsIndex es
front_is es later index =
    let long : length (es ++ later) ≡ length es + length later = length-append es later in
    record {
      each = λ k d within. subst IsEntry (get_or-append es later d k within) (index.each k d (omega arith));
      order = λ k d within. subst (λ (x : Entry). IsBefore (get_or es k d).address x.address) (get_or-append es later d (k + 1) within)
          (subst (λ (x : Entry). IsBefore x.address (get_or (es ++ later) (k + 1) d).address) (get_or-append es later d k (omega arith)) (index.order k d (omega arith)));
      few = let few = index.few in omega arith;
    }

-- ---- the search by halves

in_order : (es : List Entry) → IsInOrder es → IsSortedBy (λ a b. is_lt (slice_cmp nat_cmp a.address b.address)) es
in_order es order k d low high = not_before (get_or es k d).address (get_or es (k + 1) d).address (order k d high)

-- a text is neither less nor more than itself
compare_same : (u : AddressText) → (slice_cmp nat_cmp u u ≡ Less → ⊥) × (slice_cmp nat_cmp u u ≡ Greater → ⊥)
compare_same u = go (slice_cmp nat_cmp u u) (nat_list_cmp_total.antisymm u u)
  where
    go : (o : Ordering) → o ≡ ordering_reverse o → (o ≡ Less → ⊥) × (o ≡ Greater → ⊥)
    go Less e = cc
    go Equal e = ((λ h. cc), (λ h. cc))
    go Greater e = cc

pub none_found : (es : List Entry) (u : AddressText) (i : ℕ) → IsInOrder es → IsBinarySearchResult (λ (x : Entry). slice_cmp nat_cmp x.address u) es (Err i) → HasNone es u
none_found es u i order found k d below is =
    let parts = found (searchable_from_sorted nat_list_cmp_total (λ (x : Entry). x.address) es u (in_order es order)) in
    elim (cases_lt k i) [
      | inl before ↦ (compare_same u).0 (ap (λ (w : AddressText). slice_cmp nat_cmp w u) (sym is) ∙ parts.0 k d (omega arith) before)
      | inr after ↦ (compare_same u).1 (ap (λ (w : AddressText). slice_cmp nat_cmp w u) (sym is) ∙ parts.1 k d after below)
    ]

pub this_found : (es : List Entry) (u : AddressText) (i : ℕ) (e : Entry) → i < length es → e ≡ get_or es i e → IsBinarySearchResult (λ (x : Entry). slice_cmp nat_cmp x.address u) es (Ok i) → HasThis es u e
this_found es u i e within is found = ((i, within, sym is), exact_bytes e.address u (subst (λ (x : Entry). slice_cmp nat_cmp x.address u ≡ Equal) (sym is) (found e)))

-- ---- the last one

get_or_same : (es : List Entry) (k : ℕ) (d e : Entry) → k < length es → get_or es k d ≡ get_or es k e
get_or_same [] k d e within = absurd (omega arith)
get_or_same (x ∷ es) zero d e within = refl
get_or_same (x ∷ es) (suc k) d e within = get_or_same es k d e (omega arith)

pub follows_by : (es : List Entry) (e last : Entry) (k : ℕ) → k ≡ length es - 1 → last ≡ get_or es k last → is_lt (slice_cmp nat_cmp last.address e.address) ≡ true → Follows es e
follows_by es e last k at is before d some =
    subst (λ (x : Entry). IsBefore x.address e.address) (is ∙ get_or_same es k last d (omega arith) ∙ ap (λ (n : ℕ). get_or es n d) at) before

pub follows_so : (es : List Entry) (e last : Entry) (k : ℕ) → 0 < length es → k ≡ length es - 1 → last ≡ get_or es k last → Follows es e → is_lt (slice_cmp nat_cmp last.address e.address) ≡ true
follows_so es e last k some at is follows =
    subst (λ (x : Entry). IsBefore x.address e.address) (sym (is ∙ ap (λ (n : ℕ). get_or es n last) at)) (follows last some)
