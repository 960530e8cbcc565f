-- Names that no later page may get: they order before the least stem of the later ones.
use Rattle.std.proofs.Common.{zero, suc, ◌≡◌, ℕ, Bool, ◌+◌, ◌-◌, ◌≤◌, ◌<◌, true, false, List, [], ◌∷◌, ◌++◌, map, length, get_or, inl, inr, sym, refl, ap, ◌∙◌, subst, arith}
use Rattle.std.proofs.lemmas.Bool.{cases_lt, false_from_ne_true}
use Rattle.std.proofs.lemmas.Cmp.{nat_list_cmp_total, nat_cmp_total, tied_itself}
use Rattle.std.proofs.lemmas.List.{get_or-map, length-map, get_or_append_left, get_or_push}
use Rattle.std.specs.Cmp.Lexicographic.{slice_cmp}
use Rattle.std.specs.Fmt.{decimal}
use Rattle.std.specs.Ordering.{nat_cmp, is_lt, ordering_then, ordering_reverse}
use Rattle.std.specs.declared.cmp.Ordering.{Ordering}
use Rattle.std.specs.declared.cmp.Ordering.TheVariants.{Less, Equal, Greater}
use denote.Ref.{Bor}
use Rattle.local_names.specs.Endings.{stem_of, ending_of}
use Rattle.local_names.specs.Names.{numbered_by}
use Rattle.local_names.specs.inner.Taken.{lent_text, AreLeast, IsPast}
use Rattle.local_names.proofs.EndingLaws.{stem_ending}
use Rattle.local_names.proofs.NamingLaws.{IsBehind, numbered_name-zero, numbered_name-suc}
use Rattle.local_names.proofs.OrderLaws.{texts_equal, before_trans}

-- a text doesn't order before its own front
pub front_not_less : (own rest : List ℕ) → is_lt (slice_cmp nat_cmp (own ++ rest) own) ≡ false
front_not_less [] [] = refl
front_not_less [] (x ∷ rest) = refl
front_not_less (x ∷ own) rest = ap (λ o. is_lt (ordering_then o (slice_cmp nat_cmp (own ++ rest) own))) (tied_itself nat_cmp_total x) ∙ front_not_less own rest

pub itself_not_less : (own : List ℕ) → is_lt (slice_cmp nat_cmp own own) ≡ false
itself_not_less own = ap is_lt (tied_itself nat_list_cmp_total own)

-- each numbered name begins with the stem
numbered_not_less : (h : Bool) (own : List ℕ) (k : ℕ) → is_lt (slice_cmp nat_cmp (numbered_by h own k) (stem_of h own)) ≡ false
numbered_not_less h own zero =
    subst (λ name. is_lt (slice_cmp nat_cmp name (stem_of h own)) ≡ false) (stem_ending h own ∙ sym (numbered_name-zero h own)) (front_not_less (stem_of h own) (ending_of h own))
numbered_not_less h own (suc k) =
    subst (λ name. is_lt (slice_cmp nat_cmp name (stem_of h own)) ≡ false) (sym (numbered_name-suc h own k)) (front_not_less (stem_of h own) (46 ∷ (decimal (suc k) ++ ending_of h own)))

-- what orders before a text that doesn't order after another orders before the other
pub before_lower : (name low other : List ℕ) → is_lt (slice_cmp nat_cmp name low) ≡ true → is_lt (slice_cmp nat_cmp other low) ≡ false → is_lt (slice_cmp nat_cmp name other) ≡ true
before_lower name low other less none = by (slice_cmp nat_cmp other low) refl
  where
    by : (o : Ordering) → slice_cmp nat_cmp other low ≡ o → is_lt (slice_cmp nat_cmp name other) ≡ true
    by Less e = (let clash : true ≡ false = sym (ap is_lt e) ∙ none in cc)
    by Equal e = subst (λ x. is_lt (slice_cmp nat_cmp name x) ≡ true) (sym (texts_equal other low e)) less
    by Greater e = before_trans name low other less (ap is_lt (nat_list_cmp_total.antisymm low other ∙ ap ordering_reverse e))

not_less_trans : (x y z : List ℕ) → is_lt (slice_cmp nat_cmp x y) ≡ false → is_lt (slice_cmp nat_cmp y z) ≡ false → is_lt (slice_cmp nat_cmp x z) ≡ false
not_less_trans x y z a b = false_from_ne_true _ (λ t. (let less = before_lower x z y t b in let clash : true ≡ false = sym less ∙ a in cc))

pub reverse_not_less : (x y : List ℕ) → is_lt (slice_cmp nat_cmp x y) ≡ true → is_lt (slice_cmp nat_cmp y x) ≡ false
reverse_not_less x y less = false_from_ne_true _ (λ t. (let clash : true ≡ false = sym (before_trans x y x less t) ∙ itself_not_less x in cc))

-- so many of the least names
abbrev pub LowSoFar : List (List ℕ) → List (List ℕ) → ℕ → Type 0
LowSoFar names least i = (m j : ℕ) → m < i → length names ≤ m + 1 + j → j < length names → is_lt (slice_cmp nat_cmp (get_or names j []) (get_or least m [])) ≡ false

-- one more of them
pub least_more : (names least : List (List ℕ)) (i : ℕ) (name low : List ℕ) → length least ≡ i → i < length names → name ≡ get_or names (length names - 1 - i) [] → is_lt (slice_cmp nat_cmp name low) ≡ false → (0 < i → is_lt (slice_cmp nat_cmp (get_or least (i - 1) []) low) ≡ false) → LowSoFar names least i → LowSoFar names (least ++ low ∷ []) (i + 1)
least_more names least i name low count inside place own others so m j below reach within =
    elim (cases_lt m i) [
      | inl early ↦ subst (λ x. is_lt (slice_cmp nat_cmp (get_or names j []) x) ≡ false) (sym (get_or_append_left least (low ∷ []) [] m (omega (arith, early, count)))) (so m j early reach within)
      | inr late ↦ (
          let at : m ≡ i = omega (arith, late, below) in
          let read : get_or (least ++ low ∷ []) m [] ≡ low = get_or_push least low [] m (count ∙ sym at) in
          subst (λ x. is_lt (slice_cmp nat_cmp (get_or names j []) x) ≡ false) (sym read)
          (elim (cases_lt (length names - 1 - i) j) [
            | inl far ↦ not_less_trans (get_or names j []) (get_or least (i - 1) []) low (so (i - 1) j (omega (arith, far, within, inside)) (omega (arith, far, within, inside)) within) (others (omega (arith, far, within, inside)))
            | inr near ↦ (let here : length names - 1 - i ≡ j = omega (arith, near, reach, at, inside) in subst (λ k. is_lt (slice_cmp nat_cmp (get_or names k []) low) ≡ false) here (subst (λ x. is_lt (slice_cmp nat_cmp x low) ≡ false) place own))
          ]))
    ]

-- what a test of the least name after a place says
pub past_of : (least : List (Bor (List ℕ))) (i : ℕ) (name : List ℕ) → (i + 1 < length least → (d : Bor (List ℕ)) → is_lt (slice_cmp nat_cmp name (get_or least (length least - (i + 2)) d).now) ≡ true) → IsPast (map lent_text least) i name
past_of least i name tested more =
    let long = length-map least lent_text in
    let d : Bor (List ℕ) = record { ref_ptr = (0, 0); now = [] } in
    let k = length least - (i + 2) in
    let this = tested (omega (arith, long, more)) d in
    let read : get_or (map lent_text least) k [] ≡ (get_or least k d).now = get_or-map lent_text least k d [] (omega (arith, long, more)) in
    subst (λ n. is_lt (slice_cmp nat_cmp name (get_or (map lent_text least) (n - (i + 2)) [])) ≡ true) (sym long) (subst (λ x. is_lt (slice_cmp nat_cmp name x) ≡ true) (sym read) this)

-- no later page may get a name that is past
pub behind_from_past : (h : Bool) (plain least : List (List ℕ)) (i : ℕ) (name : List ℕ) → AreLeast (map (stem_of h) plain) least → IsPast least i name → IsBehind h plain (i + 1) name
behind_from_past h plain least i name are past j k low within same =
    let stems = map (stem_of h) plain in
    let long = length-map plain (stem_of h) in
    let count = are.count in
    let m = length least - (i + 2) in
    let own = get_or plain j [] in
    let stem : get_or stems j [] ≡ stem_of h own = get_or-map (stem_of h) plain j [] [] within in
    let first = past (omega (arith, count, low, within, long)) in
    let second = are.low m j (omega (arith, count, low, within, long)) (omega (arith, count, low, within, long)) (omega (arith, within, long)) in
    let third = before_lower name (get_or least m []) (stem_of h own) first (subst (λ x. is_lt (slice_cmp nat_cmp x (get_or least m [])) ≡ false) stem second) in
    let fourth : is_lt (slice_cmp nat_cmp name (stem_of h own)) ≡ false = ap (λ x. is_lt (slice_cmp nat_cmp x (stem_of h own))) (sym same) ∙ numbered_not_less h own k in
    let clash : true ≡ false = sym third ∙ fourth in
    cc
