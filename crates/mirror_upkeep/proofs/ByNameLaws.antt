-- Entries by the names of their files.
use Rattle.std.proofs.Common.{◌≡◌, ◌≢◌, ◌∙◌, ◌+◌, ◌<◌, ◌≤◌, inl, inr, ℕ, zero, suc, Bool, true, false, List, [], ◌∷◌, ◌++◌, length, map, get_or, refl, sym, ap, subst, arith}
use Rattle.std.specs.Prelude.{All, Contains, bytes_eq}
use Rattle.std.specs.List.Sorted.{IsPartitionPoint, IsPartitionedBy, IsPermutation, IsSortedBy}
use Rattle.std.specs.Cmp.Lexicographic.{slice_cmp, nat_list_cmp_total}
use Rattle.std.specs.Ordering.{is_lt, nat_cmp}
use Rattle.std.proofs.lemmas.Bool.{and_from, and_parts, cases_lt, false≢true}
use Rattle.std.proofs.lemmas.Bool.Decides.{Decides-ltb}
use Rattle.std.proofs.lemmas.List.{get_or-map, length-append, length-map}
use Rattle.std.proofs.lemmas.List.Sorted.{All-permutation, Contains-permutation, IsPermutation-map, ranks_by, sorted_far}
use Rattle.std.proofs.Math.ListN.{get_or-append}
use Rattle.std.proofs.Math.Seq.{get_or-append_seam}
use denote.Ref.{Bor}
use Rattle.address.specs.AddressOrder.{IsBefore}
use Rattle.address.proofs.AddressOrderLaws.{not_before_itself}
use Rattle.local_names.proofs.OrderLaws.{before_trans}
use Rattle.mirror_index.specs.Entries.{Entry, Text}
use Rattle.mirror_upkeep.specs.ByName.{AreByName, IsAnothers}
use Rattle.mirror_upkeep.specs.inner.NamedPlaces.{AreBefore, AreNamed, NamedAt, is_before, is_named_before, no_entry}
use Rattle.mirror_upkeep.proofs.LatestLaws.{eq_itself, eq_same}
use Rattle.mirror_upkeep.proofs.TakingLaws.{before_other}

abbrev pub Named : Type 0
Named = Bor Text × ℕ

at_end : (xs : List Named) (x : Named) (k : ℕ) (d : Named) → k ≡ length xs → get_or (xs ++ x ∷ []) k d ≡ x
at_end xs x k d is = subst (λ (n : ℕ). get_or (xs ++ x ∷ []) n d ≡ x) (sym is) (get_or-append_seam xs x [] d)

pub none_named : (es : List Entry) → AreNamed es [] 0
none_named es = record { long = refl; name = λ k d e below. absurd (omega arith); place = λ k d below. absurd (omega arith) }

pub named_more : (es : List Entry) (xs : List Named) (i : ℕ) (x : Named) → AreNamed es xs i → ((e : Entry) → x.0.now ≡ (get_or es i e).name) → x.1 ≡ i → AreNamed es (xs ++ x ∷ []) (i + 1)
named_more es xs i x are name place =
    let count = are.long in
    record {
      long = length-append xs (x ∷ []) ∙ ap (λ (n : ℕ). n + 1) are.long;
      name = λ k d e below. elim (cases_lt k i) [
        | inl before ↦ ap (λ (n : Named). n.0.now) (get_or-append xs (x ∷ []) d k (omega arith)) ∙ are.name k d e before
        | inr after ↦ (
            let here : k ≡ i = omega (arith, below, after) in
            ap (λ (n : Named). n.0.now) (at_end xs x k d (omega arith)) ∙ name e ∙ ap (λ (n : ℕ). (get_or es n e).name) (sym here))
      ];
      place = λ k d below. elim (cases_lt k i) [
        | inl before ↦ ap (λ (n : Named). n.1) (get_or-append xs (x ∷ []) d k (omega arith)) ∙ are.place k d before
        | inr after ↦ (
            let here : k ≡ i = omega (arith, below, after) in
            ap (λ (n : Named). n.1) (at_end xs x k d (omega arith)) ∙ place ∙ sym here)
      ];
    }

abbrev IsIn : List Entry → Named → Type 0
IsIn es x = (x.1 < length es) × ((e : Entry) → x.0.now ≡ (get_or es x.1 e).name)

each_in : (es : List Entry) (named : List Named) → AreNamed es named (length es) → All (IsIn es) named
each_in es named are k d within =
    let count = are.long in
    let below : k < length es = omega arith in
    let place : (get_or named k d).1 ≡ k = are.place k d below in
    (omega arith, λ e. are.name k d e below ∙ ap (λ (n : ℕ). (get_or es n e).name) (sym place))

nothing : Named
nothing = (record { ref_ptr = (0, 0); now = [] }, 0)

pub are_by_name : (es : List Entry) (named sorted : List Named) (places : List ℕ) → AreNamed es named (length es) → IsPermutation named sorted → IsSortedBy is_named_before sorted → places ≡ map (λ (n : Named). n.1) sorted → AreByName es places
are_by_name es named sorted places are moved up is = subst (AreByName es) (sym is) record {
  within = within;
  all = all;
  order = order;
}
  where
    second : Named → ℕ
    second = λ n. n.1

    ins : All (IsIn es) sorted
    ins = All-permutation (IsIn es) named sorted moved (each_in es named are)

    at : (k : ℕ) → k < length sorted → get_or (map (λ (n : Named). n.1) sorted) k 0 ≡ (get_or sorted k nothing).1
    at k below = get_or-map (λ (n : Named). n.1) sorted k nothing 0 below

    within : All (λ place. place < length es) (map (λ (n : Named). n.1) sorted)
    within k d below =
        let long = length-map sorted (λ (n : Named). n.1) in
        let inside : k < length sorted = omega arith in
        subst (λ (n : ℕ). n < length es) (sym (get_or-map (λ (n : Named). n.1) sorted k nothing d inside)) (ins k nothing inside).0

    all : (place : ℕ) → place < length es → Contains (map (λ (n : Named). n.1) sorted) place
    all place below =
        let count = are.long in
        let long = length-map named (λ (n : Named). n.1) in
        let inside : place < length named = omega arith in
        Contains-permutation (map (λ (n : Named). n.1) named) (map (λ (n : Named). n.1) sorted) place (IsPermutation-map (λ (n : Named). n.1) named sorted moved)
        (place, omega arith, get_or-map (λ (n : Named). n.1) named place nothing place inside ∙ are.place place nothing below)

    order : (i j : ℕ) (d : Entry) → i ≤ j → j < length (map (λ (n : Named). n.1) sorted)
        → is_lt (slice_cmp nat_cmp (get_or es (get_or (map (λ (n : Named). n.1) sorted) j 0) d).name (get_or es (get_or (map (λ (n : Named). n.1) sorted) i 0) d).name) ≡ false
    order i j d low below =
        let long = length-map sorted (λ (n : Named). n.1) in
        let second_in : j < length sorted = omega arith in
        let first_in : i < length sorted = omega arith in
        let far = sorted_far is_named_before (ranks_by nat_list_cmp_total (λ (n : Named). n.0.now)) sorted up i j nothing low second_in in
        let later : (get_or sorted j nothing).0.now ≡ (get_or es (get_or (map (λ (n : Named). n.1) sorted) j 0) d).name = (ins j nothing second_in).1 d ∙ ap (λ (n : ℕ). (get_or es n d).name) (sym (at j second_in)) in
        let earlier : (get_or sorted i nothing).0.now ≡ (get_or es (get_or (map (λ (n : Named). n.1) sorted) i 0) d).name = (ins i nothing first_in).1 d ∙ ap (λ (n : ℕ). (get_or es n d).name) (sym (at i first_in)) in
        subst (λ (u : Text). is_lt (slice_cmp nat_cmp u (get_or es (get_or (map (λ (n : Named). n.1) sorted) i 0) d).name) ≡ false) later
        (subst (λ (u : Text). is_lt (slice_cmp nat_cmp (get_or sorted j nothing).0.now u) ≡ false) earlier far)

-- ---- a search among them

at_any : (xs : List ℕ) (k d : ℕ) → k < length xs → get_or xs k d ≡ get_or xs k 0
at_any [] k d below = absurd (omega arith)
at_any (x ∷ xs) zero d below = refl
at_any (x ∷ xs) (suc k) d below = at_any xs k d (omega arith)

-- what isn't after something that is before a text is before it, too
up_to_before : (u v w : Text) → is_lt (slice_cmp nat_cmp v u) ≡ false → IsBefore v w → IsBefore u w
up_to_before u v w low before = go (bytes_eq u v) refl
  where
    go : (b : Bool) → bytes_eq u v ≡ b → IsBefore u w
    go true same = subst (λ (x : Text). IsBefore x w) (sym (eq_same u v same)) before
    go false differs = before_trans u v w (before_other u v low (λ same. false≢true (sym differs ∙ subst (λ (x : Text). bytes_eq u x ≡ true) same (eq_itself u)))) before

pub partitioned : (es : List Entry) (places : List ℕ) (name : Text) → AreByName es places → IsPartitionedBy (is_before es name) places
partitioned es places name by i j d low below passes =
    let later : get_or places j d ≡ get_or places j 0 = at_any places j d below in
    let earlier : get_or places i d ≡ get_or places i 0 = at_any places i d (omega arith) in
    let this : is_before es name (get_or places j 0) ≡ true = subst (λ (n : ℕ). is_before es name n ≡ true) later passes in
    let parts = and_parts _ _ this in
    let before = up_to_before (get_or es (get_or places i 0) no_entry).name (get_or es (get_or places j 0) no_entry).name name (by.order i j no_entry low below) parts.1 in
    subst (λ (n : ℕ). is_before es name n ≡ true) (sym earlier) (and_from _ _ ((Decides-ltb (get_or places i 0) (length es)).1 (by.within i 0 (omega arith))) before)

pub parted : (es : List Entry) (places : List ℕ) (name : Text) (first : ℕ) → IsPartitionPoint (λ y. is_before es name y ≡ true) (λ y. is_before es name y ≡ false) places first → AreBefore es places name first
parted es places name first point = record { before = λ k low below. point.0 k 0 (omega arith) low; after = λ k low below. point.1 k 0 low below }

-- what was seen
pub record AreThis (es : List Entry) (places : List ℕ) (name at : Text) (first k : ℕ) : Type 0 where
  pub each : (j : ℕ) → first ≤ j → j < k → j < length places → NamedAt es (get_or places j 0) name × ((d : Entry) → (get_or es (get_or places j 0) d).address ≡ at)

pub another_is : (es : List Entry) (place : ℕ) (name at : Text) (e : Entry) → NamedAt es place name → e ≡ get_or es place e → e.address ≢ at → IsAnothers es name at
another_is es place name at e named is other = record { entry = e; there = (place, named.within, sym is); named = ap (λ (x : Entry). x.name) is ∙ named.named e; other = other }

same_at : (xs : List Entry) (n : ℕ) (d e : Entry) → n < length xs → get_or xs n d ≡ get_or xs n e
same_at [] n d e below = absurd (omega arith)
same_at (x ∷ xs) zero d e below = refl
same_at (x ∷ xs) (suc n) d e below = same_at xs n d e (omega arith)

-- at a place after the first ones is no name before this one, so one that isn't after it is it
name_here : (es : List Entry) (places : List ℕ) (name : Text) (first k : ℕ) (d : Entry) → AreBefore es places name first → first ≤ k → k < length places → get_or places k 0 < length es
    → is_lt (slice_cmp nat_cmp name (get_or es (get_or places k 0) no_entry).name) ≡ false → (get_or es (get_or places k 0) d).name ≡ name
name_here es places name first k d before from below within low =
    ap (λ (x : Entry). x.name) (same_at es (get_or places k 0) d no_entry within) ∙ go (bytes_eq (get_or es (get_or places k 0) no_entry).name name) refl
  where
    go : (b : Bool) → bytes_eq (get_or es (get_or places k 0) no_entry).name name ≡ b → (get_or es (get_or places k 0) no_entry).name ≡ name
    go true same = eq_same (get_or es (get_or places k 0) no_entry).name name same
    go false differs =
        let here = (get_or es (get_or places k 0) no_entry).name in
        let less : IsBefore here name = before_other here name low (λ same. false≢true (sym differs ∙ subst (λ (x : Text). bytes_eq here x ≡ true) same (eq_itself here))) in
        let is : is_before es name (get_or places k 0) ≡ true = and_from _ _ ((Decides-ltb (get_or places k 0) (length es)).1 within) less in
        absurd (false≢true (sym (before.after k from below) ∙ is))

pub no_other : (es : List Entry) (places : List ℕ) (name at : Text) (first k : ℕ) → first ≤ k → AreByName es places → AreBefore es places name first → AreThis es places name at first k
    → (k < length places → NamedAt es (get_or places k 0) name → ⊥) → IsAnothers es name at → ⊥
no_other es places name at first k from by before seen stop other =
    let q = other.there.0 in
    let there = by.all q other.there.1 in
    let j = there.0 in
    let place : get_or places j 0 ≡ q = sym (at_any places j q there.1) ∙ there.2 in
    let is : (get_or es (get_or places j 0) other.entry) ≡ other.entry = ap (λ (n : ℕ). get_or es n other.entry) place ∙ other.there.2 in
    let own : (d : Entry) → (get_or es (get_or places j 0) d).name ≡ name = λ d. ap (λ (x : Entry). x.name) (same_at es (get_or places j 0) d other.entry (by.within j 0 there.1) ∙ is) ∙ other.named in
    elim (cases_lt j first) [
      | inl early ↦ (
          let yes = (and_parts _ _ (before.before j early there.1)).1 in
          not_before_itself name (subst (λ (u : Text). is_lt (slice_cmp nat_cmp u name) ≡ true) (own no_entry) yes))
      | inr late ↦ elim (cases_lt j k) [
        | inl passed ↦ other.other (ap (λ (x : Entry). x.address) (sym is) ∙ (seen.each j late passed there.1).1 other.entry)
        | inr past ↦ (
            let inside : k < length places = omega (arith, past, there.1) in
            stop inside (record { within = by.within k 0 inside; named = λ d. name_here es places name first k d before from inside (by.within k 0 inside) (subst (λ (u : Text). is_lt (slice_cmp nat_cmp u (get_or es (get_or places k 0) no_entry).name) ≡ false) (own no_entry) (by.order k j no_entry past there.1)) }))
      ]
    ]
