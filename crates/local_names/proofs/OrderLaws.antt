-- The search for a directory among names in order.
use Rattle.std.proofs.Common.{zero, suc, ◌≡◌, ◌↔◌, ℕ, ◌+◌, ◌-◌, ◌≤◌, ◌<◌, Bool, true, false, List, [], ◌∷◌, ◌++◌, length, map, take, drop, get_or, IsTrue, Result, Ok, Err, inl, inr, sym, refl, ap, ◌∙◌, subst, arith}
use Rattle.std.proofs.lemmas.Bool.{cases_lt}
use Rattle.std.proofs.lemmas.Cmp.{nat_list_cmp_total}
use Rattle.std.proofs.lemmas.List.{take-append-drop, get_or-map, length-map, length-append, append_assoc}
use Rattle.std.proofs.lemmas.List.Sorted.{searchable_from_sorted}
use Rattle.std.proofs.lemmas.Map.Text.{is_eq-slice_cmp}
use Rattle.std.proofs.lemmas.Slice.Eq.{bytes_eq-Decides}
use Rattle.std.proofs.Math.Seq.{take-append_seam}
use Rattle.std.specs.Cmp.Lexicographic.{slice_cmp}
use Rattle.std.specs.List.Sorted.{IsSorted, IsBinarySearchResult, IsSearchInRange, IsSortedBy}
use Rattle.std.specs.Ordering.{nat_cmp, is_lt, is_gt, is_eq, ordering_then, ordering_index}
use Rattle.std.specs.Result.{is_ok}
use Rattle.std.specs.declared.cmp.Ordering.{Ordering}
use Rattle.std.specs.declared.cmp.Ordering.TheVariants.{Less, Equal, Greater}
use denote.Ref.{Bor}
use Rattle.local_names.specs.PlainNames.{slash}
use Rattle.local_names.specs.Names.{IsDirectory, IsDirectoryOf}
use Rattle.local_names.specs.inner.Taken.{lent_text, text_cmp, below_order}

-- ---- the order of texts, and of their first bytes

then_not_less : (o a b : Ordering) → (is_lt a ≡ false → is_lt b ≡ false) → is_lt (ordering_then o a) ≡ false → is_lt (ordering_then o b) ≡ false
then_not_less Less a b keep e = cc
then_not_less Equal a b keep e = keep e
then_not_less Greater a b keep e = refl

fronts_in_order : (n : ℕ) (xs ys : List ℕ) → is_lt (slice_cmp nat_cmp xs ys) ≡ false → is_lt (slice_cmp nat_cmp (take n xs) (take n ys)) ≡ false
fronts_in_order zero xs ys e = refl
fronts_in_order (suc n) [] [] e = refl
fronts_in_order (suc n) [] (y ∷ ys) e = cc
fronts_in_order (suc n) (x ∷ xs) [] e = refl
fronts_in_order (suc n) (x ∷ xs) (y ∷ ys) e =
    then_not_less (nat_cmp x y) (slice_cmp nat_cmp xs ys) (slice_cmp nat_cmp (take n xs) (take n ys)) (fronts_in_order n xs ys) e

equal_from_is_eq : (o : Ordering) → is_eq o ≡ true → o ≡ Equal
equal_from_is_eq Less e = cc
equal_from_is_eq Equal e = refl
equal_from_is_eq Greater e = cc

pub texts_equal : (xs ys : List ℕ) → slice_cmp nat_cmp xs ys ≡ Equal → xs ≡ ys
texts_equal xs ys e = (bytes_eq-Decides xs ys).0 (sym (is_eq-slice_cmp xs ys) ∙ ap is_eq e)

equal_texts : (xs ys : List ℕ) → xs ≡ ys → slice_cmp nat_cmp xs ys ≡ Equal
equal_texts xs ys same = equal_from_is_eq (slice_cmp nat_cmp xs ys) (is_eq-slice_cmp xs ys ∙ (bytes_eq-Decides xs ys).1 same)

less_from_is_lt : (o : Ordering) → is_lt o ≡ true → o ≡ Less
less_from_is_lt Less e = refl
less_from_is_lt Equal e = cc
less_from_is_lt Greater e = cc

pub before_trans : (x y z : List ℕ) → is_lt (slice_cmp nat_cmp x y) ≡ true → is_lt (slice_cmp nat_cmp y z) ≡ true → is_lt (slice_cmp nat_cmp x z) ≡ true
before_trans x y z first second =
    ap is_lt (nat_list_cmp_total.trans x y z (less_from_is_lt (slice_cmp nat_cmp x y) first) (less_from_is_lt (slice_cmp nat_cmp y z) second))

-- ---- names that begin with a directory

-- how the first bytes of a lent name compare to a front
abbrev pub front_order : List ℕ → Bor (List ℕ) → Ordering
front_order front other = slice_cmp nat_cmp (take (length front) other.now) front

begins : (other name front : List ℕ) → front ≡ name ++ slash ∷ [] → take (length front) other ≡ front → IsDirectoryOf other name
begins other name front is same =
    let rest = drop (length front) other in
    (rest, sym (take-append-drop (length front) other) ∙ ap (λ x. x ++ rest) (same ∙ is) ∙ append_assoc name (slash ∷ []) rest)

front_of_directory : (other name front : List ℕ) → front ≡ name ++ slash ∷ [] → IsDirectoryOf other name → take (length front) other ≡ front
front_of_directory other name front is (rest, e) =
    ap (take (length front)) (e ∙ sym (append_assoc name (slash ∷ []) rest) ∙ ap (λ x. x ++ rest) (sym is)) ∙ take-append_seam front rest

-- when a search by the first bytes ends, it has found a name that begins so, or there is none
pub directory_found : (sorted : List (Bor (List ℕ))) (name front : List ℕ) (r : Result ℕ ℕ) → front ≡ name ++ slash ∷ [] → IsSorted text_cmp sorted → IsSearchInRange r (length sorted) → IsBinarySearchResult (front_order front) sorted r → IsTrue (is_ok r) ↔ IsDirectory (map lent_text sorted) name
directory_found sorted name front (Ok i) is up range found =
    let d : Bor (List ℕ) = record { ref_ptr = (0, 0); now = [] } in
    let other = get_or sorted i d in
    let begun : IsDirectoryOf other.now name = begins other.now name front is (texts_equal (take (length front) other.now) front (found d)) in
    let long = length-map sorted lent_text in
    let place : get_or (map lent_text sorted) i other.now ≡ other.now = get_or-map lent_text sorted i d other.now range in
    (λ _. (other.now, (i, omega arith, place), begun), λ _. refl)
directory_found sorted name front (Err i) is up range found =
    let key : Bor (List ℕ) → List ℕ = λ other. take (length front) other.now in
    let fronts : IsSortedBy (λ a b. is_lt (slice_cmp nat_cmp (key a) (key b))) sorted =
    λ k d low high. fronts_in_order (length front) (get_or sorted (k + 1) d).now (get_or sorted k d).now (up k d low high) in
    let parts = found (searchable_from_sorted nat_list_cmp_total key sorted front fronts) in (
      λ e. cc,
      λ (other, (j, below, here), inside).
          let d : Bor (List ℕ) = record { ref_ptr = (0, 0); now = [] } in
          let long = length-map sorted lent_text in
          let within : j < length sorted = omega arith in
          let at : (get_or sorted j d).now ≡ other = sym (get_or-map lent_text sorted j d other within) ∙ here in
          let equal : front_order front (get_or sorted j d) ≡ Equal =
          equal_texts (take (length front) (get_or sorted j d).now) front (ap (take (length front)) at ∙ front_of_directory other name front is inside) in
          elim (cases_lt j i) [ inl before ↦ cc (parts.0 j d (omega arith) before) | inr behind ↦ cc (parts.1 j d (omega arith) within) ],
    )

-- the same of a search by that order
pub directory_below : (sorted : List (Bor (List ℕ))) (name : List ℕ) (r : Result ℕ ℕ) → IsSorted text_cmp sorted → IsSearchInRange r (length sorted) → IsBinarySearchResult (below_order name) sorted r → IsTrue (is_ok r) ↔ IsDirectory (map lent_text sorted) name
directory_below sorted name r up range found =
    let front = name ++ slash ∷ [] in
    let long : length front ≡ length name + 1 = length-append name (slash ∷ []) in
    directory_found sorted name front r refl up range (subst (λ n. IsBinarySearchResult (λ (other : Bor (List ℕ)). slice_cmp nat_cmp (take n other.now) front) sorted r) (sym long) found)

-- names of which the one before a place orders before all of a directory, and the one there after all
pub none_between : (sorted : List (Bor (List ℕ))) (name : List ℕ) (i : ℕ) → IsSorted text_cmp sorted → i ≤ length sorted → ((d : Bor (List ℕ)) → 0 < i → below_order name (get_or sorted (i - 1) d) ≡ Less) → ((d : Bor (List ℕ)) → i < length sorted → below_order name (get_or sorted i d) ≡ Greater) → ¬ IsDirectory (map lent_text sorted) name
none_between sorted name i up range before behind inside =
    let n = length name + 1 in
    let key : Bor (List ℕ) → List ℕ = λ other. take n other.now in
    let fronts : IsSortedBy (λ a b. is_lt (slice_cmp nat_cmp (key a) (key b))) sorted =
    λ k d low high. fronts_in_order n (get_or sorted (k + 1) d).now (get_or sorted k d).now (up k d low high) in
    let rising = searchable_from_sorted nat_list_cmp_total key sorted (name ++ slash ∷ []) fronts in
    let found = (directory_below sorted name (Err i) up range (λ rises. (
      λ j d low high. low_is_less (below_order name (get_or sorted j d)) (below_order name (get_or sorted (i - 1) d)) (before d (omega arith)) (rising j (i - 1) d (omega arith) (omega arith)),
      λ j d low high. high_is_greater (below_order name (get_or sorted i d)) (below_order name (get_or sorted j d)) (behind d (omega arith)) (rising i j d (omega arith) (omega arith)),
    ))).1 inside in
    cc found
  where
    low_is_less : (o top : Ordering) → top ≡ Less → ordering_index o ≤ ordering_index top → o ≡ Less
    low_is_less Less top e order = refl
    low_is_less Equal top e order = (let bound = ap ordering_index e in absurd (omega (arith, bound, order)))
    low_is_less Greater top e order = (let bound = ap ordering_index e in absurd (omega (arith, bound, order)))

    high_is_greater : (bottom o : Ordering) → bottom ≡ Greater → ordering_index bottom ≤ ordering_index o → o ≡ Greater
    high_is_greater bottom Less e order = (let bound = ap ordering_index e in absurd (omega (arith, bound, order)))
    high_is_greater bottom Equal e order = (let bound = ap ordering_index e in absurd (omega (arith, bound, order)))
    high_is_greater bottom Greater e order = refl

-- how a name compares to a directory and its slash: by as many bytes first, and then by the next
pub compared_by_parts : (name directory : List ℕ) → slice_cmp nat_cmp (take (length directory + 1) name) (directory ++ slash ∷ []) ≡ ordering_then (slice_cmp nat_cmp (take (length directory) name) directory) (slice_cmp nat_cmp (take 1 (drop (length directory) name)) (slash ∷ []))
compared_by_parts name directory =
    let more : suc (length directory) ≡ length directory + 1 = omega arith in
    ap (λ n. slice_cmp nat_cmp (take n name) (directory ++ slash ∷ [])) (sym more) ∙ by_parts name directory
  where
    then_assoc : (o a b : Ordering) → ordering_then o (ordering_then a b) ≡ ordering_then (ordering_then o a) b
    then_assoc Less a b = refl
    then_assoc Equal a b = refl
    then_assoc Greater a b = refl

    by_parts : (xs ys : List ℕ) → slice_cmp nat_cmp (take (suc (length ys)) xs) (ys ++ slash ∷ []) ≡ ordering_then (slice_cmp nat_cmp (take (length ys) xs) ys) (slice_cmp nat_cmp (take 1 (drop (length ys) xs)) (slash ∷ []))
    by_parts xs [] = refl
    by_parts [] (y ∷ ys) = refl
    by_parts (x ∷ xs) (y ∷ ys) =
        ap (ordering_then (nat_cmp x y)) (by_parts xs ys)
        ∙ then_assoc (nat_cmp x y) (slice_cmp nat_cmp (take (length ys) xs) ys) (slice_cmp nat_cmp (take 1 (drop (length ys) xs)) (slash ∷ []))

-- the same as the code finds it: the next byte counts if as many bytes are the directory, and else not
pub compared_equal : (name directory n d front : List ℕ) (o r : Ordering) → n ≡ name → d ≡ directory → front ≡ take (length d) n → o ≡ slice_cmp nat_cmp front d → o ≡ Equal → r ≡ slice_cmp nat_cmp (take 1 (drop (length front) n)) (slash ∷ []) → r ≡ slice_cmp nat_cmp (take (length directory + 1) name) (directory ++ slash ∷ [])
compared_equal name directory n d front o r en ed ef eo is er =
    let same : front ≡ d = texts_equal front d (sym eo ∙ is) in
    let first : slice_cmp nat_cmp (take (length d) n) d ≡ Equal = ap (λ f. slice_cmp nat_cmp f d) (sym ef) ∙ sym eo ∙ is in
    er
    ∙ ap (λ f. slice_cmp nat_cmp (take 1 (drop (length f) n)) (slash ∷ [])) same
    ∙ sym (compared_by_parts n d ∙ ap (λ x. ordering_then x (slice_cmp nat_cmp (take 1 (drop (length d) n)) (slash ∷ []))) first)
    ∙ ap (λ x. slice_cmp nat_cmp (take (length d + 1) x) (d ++ slash ∷ [])) en
    ∙ ap (λ x. slice_cmp nat_cmp (take (length x + 1) name) (x ++ slash ∷ [])) ed

pub compared_unequal : (name directory n d front : List ℕ) (o : Ordering) → n ≡ name → d ≡ directory → front ≡ take (length d) n → o ≡ slice_cmp nat_cmp front d → (o ≡ Equal → ⊥) → o ≡ slice_cmp nat_cmp (take (length directory + 1) name) (directory ++ slash ∷ [])
compared_unequal name directory n d front o en ed ef eo differs =
    sym (decides o (slice_cmp nat_cmp (take 1 (drop (length d) n)) (slash ∷ [])) differs)
    ∙ ap (λ x. ordering_then x (slice_cmp nat_cmp (take 1 (drop (length d) n)) (slash ∷ []))) (eo ∙ ap (λ f. slice_cmp nat_cmp f d) ef)
    ∙ sym (compared_by_parts n d)
    ∙ ap (λ x. slice_cmp nat_cmp (take (length d + 1) x) (d ++ slash ∷ [])) en
    ∙ ap (λ x. slice_cmp nat_cmp (take (length x + 1) name) (x ++ slash ∷ [])) ed
  where
    decides : (o p : Ordering) → (o ≡ Equal → ⊥) → ordering_then o p ≡ o
    decides Less p differs = refl
    decides Equal p differs = absurd (differs refl)
    decides Greater p differs = refl

-- what two tests of a lent name's neighbours say
pub is_less : (o : Ordering) (b : Bool) → b ≡ is_lt o → b ≡ true → o ≡ Less
is_less o b e is = less_from_is_lt o (sym e ∙ is)

pub is_greater : (o : Ordering) (b : Bool) → b ≡ is_gt o → b ≡ true → o ≡ Greater
is_greater Less b e is = cc
is_greater Equal b e is = cc
is_greater Greater b e is = refl
