-- Names of several lists of which none occurs twice, and how a search in order finds that one is absent.
use Rattle.std.proofs.Common.{◌≡◌, ℕ, ◌+◌, ◌<◌, inl, inr, true, false, List, [], ◌∷◌, ◌++◌, length, get_or, map, zero, suc, Result, Ok, Err, refl, sym, ap, ◌∙◌, subst, arith}
use Rattle.std.specs.Prelude.{All, Contains, IsPermutation}
use Rattle.std.specs.List.{AllZip}
use Rattle.std.specs.Result.{is_ok}
use Rattle.std.proofs.lemmas.Bool.{false≢true, cases_lt}
use Rattle.std.proofs.lemmas.List.{length-map, get_or-map, map-append}
use Rattle.std.proofs.lemmas.List.Elements.{All-cons, Contains-append_cases}
use Rattle.std.proofs.lemmas.List.Sorted.{searchable_from_sorted, IsPermutation-append, IsPermutation-map, IsPermutation-refl, IsPermutation-sym}
use Rattle.std.specs.declared.cmp.Ordering.{Ordering}
use Rattle.std.specs.declared.cmp.Ordering.TheVariants.{Less, Equal, Greater}
use Rattle.std.specs.Cmp.Lexicographic.{slice_cmp, nat_list_cmp_total}
use Rattle.std.specs.List.Sorted.{IsSortedBy, IsBinarySearchResult}
use Rattle.std.specs.Ordering.{nat_cmp, is_lt, ordering_reverse}
use Rattle.frontier_core.specs.Tables.{Text, IsOnce}
use Rattle.frontier_core.proofs.RouteLaws.{contains_tail, contains_cases}
use Rattle.workers.specs.inner.Apart.{AreInOrder, IsOrdered, AreNotedApart}
use Rattle.workers.specs.declared.note.PageNote.{PageNote}
use Rattle.workers.specs.declared.note.RulesNote.{RulesNote}
use Rattle.workers.specs.declared.worker.Seat.{Seat}
use Rattle.workers.specs.inner.Notes.{addresses, origins}
use Rattle.address.specs.AddressOrder.{IsAscending}
use Rattle.workers.specs.inner.Seats.{fetchers_of, page_notes, rules_notes}
use Rattle.workers.proofs.ComparisonLaws.{once_ascending}
use Rattle.workers.proofs.ConclusionLaws.{once_permutation}

-- ---- a search that finds nothing

-- a text isn't less than itself
compare_same : (u : Text) → (slice_cmp nat_cmp u u ≡ Less → ⊥) × (slice_cmp nat_cmp u u ≡ Greater → ⊥)
compare_same u = go (slice_cmp nat_cmp u u) (nat_list_cmp_total.antisymm u u)
  where
    go : (o : Ordering) → o ≡ ordering_reverse o → (o ≡ Less → ⊥) × (o ≡ Greater → ⊥)
    go Less e = cc
    go Equal e = ((λ h. cc), (λ h. cc))
    go Greater e = cc

-- what is less one way isn't the other way
not_less : (o r : Ordering) → r ≡ ordering_reverse o → is_lt o ≡ true → is_lt r ≡ false
not_less Less r e h = ap is_lt e
not_less Equal r e h = absurd (false≢true h)
not_less Greater r e h = absurd (false≢true h)

module _ {X : Type 0} (key : X → Text) where
  sorted_keys : (xs : List X) → IsAscending (map key xs) → IsSortedBy (λ (x y : X). is_lt (slice_cmp nat_cmp (key x) (key y))) xs
  sorted_keys xs up k d low high =
      let long : length (map key xs) ≡ length xs = length-map xs key in
      let at = get_or-map key xs k d (key d) (omega arith) in
      let next = get_or-map key xs (k + 1) d (key d) (omega arith) in
      let below : is_lt (slice_cmp nat_cmp (get_or (map key xs) k (key d)) (get_or (map key xs) (k + 1) (key d))) ≡ true = up k (k + 1) (key d) (omega arith) (omega arith) in
      not_less _ _ (nat_list_cmp_total.antisymm (key (get_or xs (k + 1) d)) (key (get_or xs k d)))
      (ap (λ (x : Text). is_lt (slice_cmp nat_cmp x (key (get_or xs (k + 1) d)))) (sym at) ∙ ap (λ (x : Text). is_lt (slice_cmp nat_cmp (get_or (map key xs) k (key d)) x)) (sym next) ∙ below)

  -- what a binary search in order doesn't find is nowhere
  pub absent_named : (xs : List X) (u : Text) (r : Result ℕ ℕ) → is_ok r ≡ false → IsAscending (map key xs)
      → IsBinarySearchResult (λ (x : X). slice_cmp nat_cmp (key x) u) xs r → (d : X) → ¬ Contains (map key xs) u
  absent_named xs u (Ok i) missed up found d among = absurd (false≢true (sym missed))
  absent_named xs u (Err i) missed up found d among =
      let parts = found (searchable_from_sorted nat_list_cmp_total key xs u (sorted_keys xs up)) in
      let (k, lt, is) = among in
      let here : k < length xs = omega (arith, length-map xs key) in
      let named : key (get_or xs k d) ≡ u = sym (get_or-map key xs k d u here) ∙ is in
      elim (cases_lt k i) [
        | inl before ↦ (compare_same u).0 (ap (λ (w : Text). slice_cmp nat_cmp w u) (sym named) ∙ parts.0 k d (omega arith) before)
        | inr after ↦ (compare_same u).1 (ap (λ (w : Text). slice_cmp nat_cmp w u) (sym named) ∙ parts.1 k d after here)
      ]

  each_named : (xs : List X) (names : List Text) → ((k : ℕ) (d : X) → k < length xs → ¬ Contains names (key (get_or xs k d))) → (u : Text) → Contains (map key xs) u → ¬ Contains names u
  each_named [] names all u (k, lt, is) among = absurd (omega arith)
  each_named (x ∷ xs) names all u here among = elim (contains_cases (key x) u (map key xs) here) [
    | inl is ↦ all zero x (omega arith) (subst (λ (w : Text). Contains names w) (sym is) among)
    | inr later ↦ each_named xs names (λ k d lt. all (suc k) d (omega arith)) u later among
  ]

  -- what holds of each thing holds of what is named among them
  pub apart_each : (xs : List X) (names : List Text) → ((k : ℕ) (d : X) → k < length xs → ¬ Contains names (key (get_or xs k d))) → AreNotedApart (map key xs) names
  apart_each xs names all = record { apart = each_named xs names all }

-- ---- names of several lists

pub apart_none : (names : List Text) → AreNotedApart names []
apart_none names = record { apart = λ u here among. (let (k, lt, is) = among in absurd (omega arith)) }

pub apart_both : (names us vs : List Text) → AreNotedApart names us → AreNotedApart names vs → AreNotedApart names (us ++ vs)
apart_both names us vs first second = record {
  apart = λ u here among. elim (Contains-append_cases us vs u among) [
    | inl left ↦ first.apart u here left
    | inr right ↦ second.apart u here right
  ];
}

pub once_both : (us vs : List Text) → IsOnce us → IsOnce vs → AreNotedApart us vs → IsOnce (us ++ vs)
once_both [] vs first second apart = second
once_both (u ∷ us) vs first second apart = (
  (λ among. elim (Contains-append_cases us vs u among) [
    | inl left ↦ first.0 left
    | inr right ↦ apart.apart u (zero, omega arith, refl) right
  ]),
  once_both us vs first.1 second (record { apart = λ w here. apart.apart w (contains_tail u w us here) }),
)

-- ---- seats

module _ {F : Type 0} where
  pub order_first : {B : Type 0} (seat : Seat F B) (seats : List (Seat F B)) → AreInOrder seat.notes → All (λ (s : Seat F B). AreInOrder s.notes) seats → All (λ (s : Seat F B). AreInOrder s.notes) (seat ∷ seats)
  order_first {B = B} seat seats first rest = All-cons (λ (s : Seat F B). AreInOrder s.notes) seat seats first rest

  pub pages_apart : {B : Type 0} (names : List Text) (seat : Seat F B) (seats : List (Seat F B)) → AreNotedApart names (addresses seat.notes.pages.items) → AreNotedApart names (addresses (page_notes seats))
      → AreNotedApart names (addresses (page_notes (seat ∷ seats)))
  pages_apart {B = B} names seat seats first second = subst (λ (us : List Text). AreNotedApart names us) (sym (map-append (λ (note : PageNote B). note.address) seat.notes.pages.items (page_notes seats)))
      (apart_both names (addresses seat.notes.pages.items) (addresses (page_notes seats)) first second)

  pub rules_apart : {B : Type 0} (names : List Text) (seat : Seat F B) (seats : List (Seat F B)) → AreNotedApart names (origins seat.notes.rules.items) → AreNotedApart names (origins (rules_notes seats))
      → AreNotedApart names (origins (rules_notes (seat ∷ seats)))
  rules_apart names seat seats first second = subst (λ (us : List Text). AreNotedApart names us) (sym (map-append (λ (note : RulesNote). note.origin) seat.notes.rules.items (rules_notes seats)))
      (apart_both names (origins seat.notes.rules.items) (origins (rules_notes seats)) first second)

  pub pages_once : {B : Type 0} (seat : Seat F B) (seats : List (Seat F B)) → AreInOrder seat.notes → IsOnce (addresses (page_notes seats)) → AreNotedApart (addresses seat.notes.pages.items) (addresses (page_notes seats))
      → IsOnce (addresses (page_notes (seat ∷ seats)))
  pages_once {B = B} seat seats order once apart = subst IsOnce (sym (map-append (λ (note : PageNote B). note.address) seat.notes.pages.items (page_notes seats)))
      (once_both (addresses seat.notes.pages.items) (addresses (page_notes seats)) (once_ascending (addresses seat.notes.pages.items) order.pages) once apart)

  pub rules_once : {B : Type 0} (seat : Seat F B) (seats : List (Seat F B)) → AreInOrder seat.notes → IsOnce (origins (rules_notes seats)) → AreNotedApart (origins seat.notes.rules.items) (origins (rules_notes seats))
      → IsOnce (origins (rules_notes (seat ∷ seats)))
  rules_once seat seats order once apart = subst IsOnce (sym (map-append (λ (note : RulesNote). note.origin) seat.notes.rules.items (rules_notes seats)))
      (once_both (origins seat.notes.rules.items) (origins (rules_notes seats)) (once_ascending (origins seat.notes.rules.items) order.rules) once apart)

  -- if what each of the seats noted is apart from the names, all that they noted is
  pub pages_apart_each : {B : Type 0} (names : List Text) (seats : List (Seat F B)) → ((k : ℕ) (d : Seat F B) → k < length seats → AreNotedApart names (addresses (get_or seats k d).notes.pages.items))
      → AreNotedApart names (addresses (page_notes seats))
  pages_apart_each names [] all = apart_none names
  pages_apart_each names (seat ∷ seats) all = pages_apart names seat seats (all zero seat (omega arith)) (pages_apart_each names seats (λ k d lt. all (suc k) d (omega (arith, lt))))

  pub rules_apart_each : {B : Type 0} (names : List Text) (seats : List (Seat F B)) → ((k : ℕ) (d : Seat F B) → k < length seats → AreNotedApart names (origins (get_or seats k d).notes.rules.items))
      → AreNotedApart names (origins (rules_notes seats))
  rules_apart_each names [] all = apart_none names
  rules_apart_each names (seat ∷ seats) all = rules_apart names seat seats (all zero seat (omega arith)) (rules_apart_each names seats (λ k d lt. all (suc k) d (omega (arith, lt))))

  first_order : {B : Type 0} (seat : Seat F B) (others seats : List (Seat F B)) → seat ∷ others ≡ seats → All (λ (s : Seat F B). AreInOrder s.notes) seats → AreInOrder seat.notes
  first_order {B = B} seat others seats is order = subst (λ (ss : List (Seat F B)). All (λ (s : Seat F B). AreInOrder s.notes) ss) (sym is) order 0 seat (omega arith)

  pub rest_order : {B : Type 0} (seat : Seat F B) (others seats : List (Seat F B)) → seat ∷ others ≡ seats → All (λ (s : Seat F B). AreInOrder s.notes) seats → All (λ (s : Seat F B). AreInOrder s.notes) others
  rest_order {B = B} seat others seats is order k d lt = subst (λ (ss : List (Seat F B)). All (λ (s : Seat F B). AreInOrder s.notes) ss) (sym is) order (suc k) d (omega (arith, lt))

  pub pages_once_none : {B : Type 0} (seats : List (Seat F B)) → length seats ≡ 0 → IsOnce (addresses (page_notes seats))
  pages_once_none [] none = tt
  pages_once_none (seat ∷ seats) none = absurd (omega (arith, none))

  pub rules_once_none : {B : Type 0} (seats : List (Seat F B)) → length seats ≡ 0 → IsOnce (origins (rules_notes seats))
  rules_once_none [] none = tt
  rules_once_none (seat ∷ seats) none = absurd (omega (arith, none))

  pub pages_once_first : {B : Type 0} (seat : Seat F B) (others seats : List (Seat F B)) → seat ∷ others ≡ seats → All (λ (s : Seat F B). AreInOrder s.notes) seats → IsOnce (addresses (page_notes others))
      → AreNotedApart (addresses seat.notes.pages.items) (addresses (page_notes others)) → IsOnce (addresses (page_notes seats))
  pages_once_first {B = B} seat others seats is order once apart =
      subst (λ (ss : List (Seat F B)). IsOnce (addresses (page_notes ss))) is (pages_once seat others (first_order seat others seats is order) once apart)

  pub rules_once_first : {B : Type 0} (seat : Seat F B) (others seats : List (Seat F B)) → seat ∷ others ≡ seats → All (λ (s : Seat F B). AreInOrder s.notes) seats → IsOnce (origins (rules_notes others))
      → AreNotedApart (origins seat.notes.rules.items) (origins (rules_notes others)) → IsOnce (origins (rules_notes seats))
  rules_once_first {B = B} seat others seats is order once apart =
      subst (λ (ss : List (Seat F B)). IsOnce (origins (rules_notes ss))) is (rules_once seat others (first_order seat others seats is order) once apart)

  pub ordered_none : {B : Type 0} (seats : List (Seat F B)) → length seats ≡ 0 → AllZip IsOrdered seats seats
  ordered_none [] none = tt
  ordered_none (seat ∷ seats) none = absurd (omega (arith, none))

  pub ordered_first : {B : Type 0} (seat seat' : Seat F B) (others others' seats : List (Seat F B)) → seat ∷ others ≡ seats → IsOrdered seat seat' → AllZip IsOrdered others others' → AllZip IsOrdered seats (seat' ∷ others')
  ordered_first {B = B} seat seat' others others' seats is first rest = subst (λ (ss : List (Seat F B)). AllZip IsOrdered ss (seat' ∷ others')) is (first, rest)

  pub same_fetchers : {B : Type 0} (ss ts : List (Seat F B)) → AllZip IsOrdered ss ts → fetchers_of ts ≡ fetchers_of ss
  same_fetchers [] [] all = refl
  same_fetchers [] (t ∷ ts) all = absurd all
  same_fetchers (s ∷ ss) [] all = absurd all
  same_fetchers (s ∷ ss) (t ∷ ts) all = ap (λ (f : F). f ∷ fetchers_of ts) all.0.fetcher ∙ ap (λ (fs : List F). s.fetcher ∷ fs) (same_fetchers ss ts all.1)

  moved_pages : {B : Type 0} (ss ts : List (Seat F B)) → AllZip IsOrdered ss ts → IsPermutation (page_notes ss) (page_notes ts)
  moved_pages [] [] all = IsPermutation-refl []
  moved_pages [] (t ∷ ts) all = absurd all
  moved_pages (s ∷ ss) [] all = absurd all
  moved_pages (s ∷ ss) (t ∷ ts) all = IsPermutation-append s.notes.pages.items t.notes.pages.items (page_notes ss) (page_notes ts) all.0.pages (moved_pages ss ts all.1)

  moved_rules : {B : Type 0} (ss ts : List (Seat F B)) → AllZip IsOrdered ss ts → IsPermutation (rules_notes ss) (rules_notes ts)
  moved_rules [] [] all = IsPermutation-refl []
  moved_rules [] (t ∷ ts) all = absurd all
  moved_rules (s ∷ ss) [] all = absurd all
  moved_rules (s ∷ ss) (t ∷ ts) all = IsPermutation-append s.notes.rules.items t.notes.rules.items (rules_notes ss) (rules_notes ts) all.0.rules (moved_rules ss ts all.1)

  -- what occurs once in order occurred once before
  pub pages_once_before : {B : Type 0} (ss ts : List (Seat F B)) → AllZip IsOrdered ss ts → IsOnce (addresses (page_notes ts)) → IsOnce (addresses (page_notes ss))
  pages_once_before {B = B} ss ts all once =
      once_permutation _ _ (IsPermutation-sym _ _ (IsPermutation-map (λ (note : PageNote B). note.address) (page_notes ss) (page_notes ts) (moved_pages ss ts all))) once

  pub rules_once_before : {B : Type 0} (ss ts : List (Seat F B)) → AllZip IsOrdered ss ts → IsOnce (origins (rules_notes ts)) → IsOnce (origins (rules_notes ss))
  rules_once_before ss ts all once =
      once_permutation _ _ (IsPermutation-sym _ _ (IsPermutation-map (λ (note : RulesNote). note.origin) (rules_notes ss) (rules_notes ts) (moved_rules ss ts all))) once
