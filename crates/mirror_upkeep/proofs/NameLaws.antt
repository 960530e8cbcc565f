-- Names in order, and what is found among them.
use Rattle.std.proofs.Common.{◌≡◌, ◌∙◌, ◌+◌, ◌<◌, ◌≤◌, ◌||◌, inl, inr, ℕ, zero, suc, Bool, true, false, List, [], ◌∷◌, ◌++◌, Option, Some, None, cond, Result, Ok, Err, length, map, take, drop, get_or, refl, sym, ap, subst, arith, append_assoc, length-append}
use Rattle.std.specs.Prelude.{Contains, MatchOption, bytes_eq}
use Rattle.std.specs.Bool.{Decides}
use Rattle.std.specs.Option.{is_some}
use Rattle.std.specs.Result.{is_ok}
use Rattle.std.specs.List.{list_any}
use Rattle.std.specs.List.Sorted.{IsBinarySearchResult, IsPermutation, IsSearchInRange, IsSorted, IsSortedBy}
use Rattle.std.specs.Cmp.Lexicographic.{slice_cmp, nat_list_cmp_total}
use Rattle.std.specs.Ordering.{is_lt, nat_cmp, ordering_reverse}
use Rattle.std.specs.declared.cmp.Ordering.{Ordering}
use Rattle.std.specs.declared.cmp.Ordering.TheVariants.{Less, Equal, Greater}
use Rattle.std.proofs.lemmas.Bool.{cases_lt, false≢true}
use Rattle.std.proofs.lemmas.Bool.Decides.{same_from_decides}
use Rattle.std.proofs.lemmas.List.{get_or-map, length-map}
use Rattle.std.proofs.lemmas.List.Folds.{list_any_at}
use Rattle.std.proofs.lemmas.List.Sorted.{list_any-IsPermutation, searchable_from_sorted}
use Rattle.std.proofs.lemmas.Map.Lookups.{exact_bytes}
use denote.Ref.{Bor}
use Rattle.address.specs.AddressOrder.{IsAscending, IsBefore}
use Rattle.address.proofs.AddressOrderLaws.{IsSortedBy-from_ascending, not_before_itself}
use Rattle.local_names.specs.Names.{IsDirectory, IsDirectoryOf}
use Rattle.local_names.specs.PlainNames.{slash}
use Rattle.local_names.proofs.OrderLaws.{directory_found}
use Rattle.mirror_index.specs.Entries.{Entry, Text}
use Rattle.mirror_index.specs.Indexes.{HasNone, HasThis}
use Rattle.mirror_upkeep.specs.Joined.{addresses, name_at}
use Rattle.mirror_upkeep.specs.Names.{has_name, is_directory_of}
use Rattle.mirror_upkeep.specs.inner.Lent.{front_order, lent_text, text_cmp}
use Rattle.mirror_upkeep.proofs.LatestLaws.{eq_itself, eq_other, eq_same, not_true}
use Rattle.mirror_upkeep.proofs.ReadingLaws.{begins-Decides}

-- ---- some element passes

pub or_left : (b c : Bool) → b ≡ true → (b || c) ≡ true
or_left true c e = refl
or_left false c e = cc

pub or_none : (b c : Bool) → b ≡ false → (b || c) ≡ c
or_none true c e = cc
or_none false c e = refl

or_right : (b c : Bool) → c ≡ true → (b || c) ≡ true
or_right true c e = refl
or_right false c e = e

pub any_is : {X : Type 0} (p : X → Bool) (xs : List X) → list_any p xs ≡ true → (x : X) × Contains xs x × (p x ≡ true)
any_is p [] e = absurd (false≢true e)
any_is {X} p (x ∷ xs) e = go (p x) refl e (any_is p xs)
  where
    go : (b : Bool) → p x ≡ b → (b || list_any p xs) ≡ true → (list_any p xs ≡ true → (y : X) × Contains xs y × (p y ≡ true)) → (y : X) × Contains (x ∷ xs) y × (p y ≡ true)
    go true is some later = (x, (0, omega arith, refl), is)
    go false is some later = let found = later some in (found.0, (suc found.1.0, omega (arith, found.1.1), found.1.2), found.2)

pub any_by : {X : Type 0} (p : X → Bool) (xs : List X) (x : X) → Contains xs x → p x ≡ true → list_any p xs ≡ true
any_by p xs x there passes = list_any_at p xs there.0 x there.1 (ap p there.2 ∙ passes)

pub has_is : (names : List Text) (name : Text) → has_name names name ≡ true → Contains names name
has_is names name e = let found = any_is (bytes_eq name) names e in subst (λ (x : Text). Contains names x) (sym (eq_same name found.0 found.2)) found.1

pub has_by : (names : List Text) (name : Text) → Contains names name → has_name names name ≡ true
has_by names name there = any_by (bytes_eq name) names name there (eq_itself name)

-- ---- a search by halves

compared_itself : (o : Ordering) → o ≡ ordering_reverse o → o ≡ Greater → ⊥
compared_itself Less e is = cc
compared_itself Equal e is = cc
compared_itself Greater e is = cc

not_greater_itself : (u : Text) → slice_cmp nat_cmp u u ≡ Greater → ⊥
not_greater_itself u is = compared_itself (slice_cmp nat_cmp u u) (nat_list_cmp_total.antisymm u u) is

pub among_found : {X : Type 0} (key : X → Text) (xs : List X) (u : Text) (r : Result ℕ ℕ) (d : X) → IsSortedBy (λ a b. is_lt (slice_cmp nat_cmp (key a) (key b))) xs → IsSearchInRange r (length xs)
    → IsBinarySearchResult (λ y. slice_cmp nat_cmp (key y) u) xs r → is_ok r ≡ has_name (map key xs) u
among_found key xs u (Ok i) d up range found =
    let long = length-map xs key in
    let is : key (get_or xs i d) ≡ u = exact_bytes (key (get_or xs i d)) u (found d) in
    sym (has_by (map key xs) u (i, omega arith, get_or-map key xs i d u range ∙ is))
among_found key xs u (Err i) d up range found =
    let parts = found (searchable_from_sorted nat_list_cmp_total key xs u up) in
    let long = length-map xs key in
    sym (not_true (has_name (map key xs) u) (λ e.
    let there = has_is (map key xs) u e in
    let within : there.0 < length xs = omega (arith, there.1) in
    let is : key (get_or xs there.0 d) ≡ u = sym (get_or-map key xs there.0 d u within) ∙ there.2 in
    elim (cases_lt there.0 i) [
      | inl before ↦ (
          let less : slice_cmp nat_cmp (key (get_or xs there.0 d)) u ≡ Less = parts.0 there.0 d (omega arith) before in
          not_before_itself u (ap is_lt (subst (λ (w : Text). slice_cmp nat_cmp w u ≡ Less) is less)))
      | inr behind ↦ (
          let more : slice_cmp nat_cmp (key (get_or xs there.0 d)) u ≡ Greater = parts.1 there.0 d behind within in
          not_greater_itself u (subst (λ (w : Text). slice_cmp nat_cmp w u ≡ Greater) is more))
    ]))

nothing_lent : Bor Text
nothing_lent = record { ref_ptr = (0, 0); now = [] }

pub lent_found : (sorted : List (Bor Text)) (u : Text) (r : Result ℕ ℕ) → IsSorted text_cmp sorted → IsSearchInRange r (length sorted)
    → IsBinarySearchResult (λ (y : Bor Text). slice_cmp nat_cmp y.now u) sorted r → is_ok r ≡ has_name (map lent_text sorted) u
lent_found sorted u r up range found = among_found lent_text sorted u r nothing_lent up range found

map_same : (xs : List Text) → map (λ (x : Text). x) xs ≡ xs
map_same [] = refl
map_same (x ∷ xs) = ap (λ (ys : List Text). x ∷ ys) (map_same xs)

pub ascending_found : (kept : List Text) (u : Text) (r : Result ℕ ℕ) → IsAscending kept → IsSearchInRange r (length kept) → IsBinarySearchResult (λ (y : Text). slice_cmp nat_cmp y u) kept r → is_ok r ≡ has_name kept u
ascending_found kept u r up range found =
    among_found (λ (x : Text). x) kept u r [] (IsSortedBy-from_ascending (λ (x : Text). x) kept (subst IsAscending (sym (map_same kept)) up)) range found
    ∙ ap (λ (xs : List Text). has_name xs u) (map_same kept)

-- ---- directories

directory-Decides : (name directory : Text) → Decides (is_directory_of name directory) (IsDirectoryOf name directory)
directory-Decides name directory =
    let is = begins-Decides name (directory ++ slash ∷ []) in (
      λ yes. let begins = is.0 yes in (begins.0, begins.1 ∙ append_assoc directory (slash ∷ []) begins.0),
      λ below. is.1 (below.0, below.1 ∙ sym (append_assoc directory (slash ∷ []) below.0)),
    )

below-Decides : (names : List Text) (directory : Text) → Decides (list_any (λ other. is_directory_of other directory) names) (IsDirectory names directory)
below-Decides names directory = (
  λ yes. let found = any_is (λ other. is_directory_of other directory) names yes in (found.0, found.1, (directory-Decides found.0 directory).0 found.2),
  λ is. any_by (λ other. is_directory_of other directory) names is.0 is.1 ((directory-Decides is.0 directory).1 is.2),
)

pub below_found : (sorted : List (Bor Text)) (name front : Text) (r : Result ℕ ℕ) → front ≡ name ++ slash ∷ [] → IsSorted text_cmp sorted → IsSearchInRange r (length sorted)
    → IsBinarySearchResult (front_order front) sorted r → is_ok r ≡ list_any (λ other. is_directory_of other name) (map lent_text sorted)
below_found sorted name front r is up range found =
    same_from_decides (is_ok r) (list_any (λ other. is_directory_of other name) (map lent_text sorted)) (directory_found sorted name front r is up range found) (below-Decides (map lent_text sorted) name)

cut_at : (xs : Text) (i : ℕ) → i < length xs → xs ≡ take i xs ++ get_or xs i 0 ∷ drop (suc i) xs
cut_at [] i within = absurd (omega arith)
cut_at (x ∷ xs) zero within = refl
cut_at (x ∷ xs) (suc i) within = ap (λ (ys : Text). x ∷ ys) (cut_at xs i (omega arith))

pub above_found : (names : List Text) (name part : Text) (i : ℕ) → i < length name → get_or name i 0 ≡ slash → part ≡ take i name → has_name names part ≡ true → list_any (is_directory_of name) names ≡ true
above_found names name part i within at is has =
    any_by (is_directory_of name) names part (has_is names part has)
    ((directory-Decides name part).1 (drop (suc i) name, cut_at name i within ∙ ap (λ (b : ℕ). take i name ++ b ∷ drop (suc i) name) at ∙ ap (λ (p : Text). p ++ slash ∷ drop (suc i) name) (sym is)))

byte_at : (xs : Text) (b : ℕ) (ys : Text) → get_or (xs ++ b ∷ ys) (length xs) 0 ≡ b
byte_at [] b ys = refl
byte_at (x ∷ xs) b ys = byte_at xs b ys

front_at : (xs ys : Text) → take (length xs) (xs ++ ys) ≡ xs
front_at [] ys = refl
front_at (x ∷ xs) ys = ap (λ (zs : Text). x ∷ zs) (front_at xs ys)

pub none_above : (names : List Text) (name : Text) → ((k : ℕ) → k < length name → get_or name k 0 ≡ slash → has_name names (take k name) ≡ false) → list_any (is_directory_of name) names ≡ false
none_above names name none = not_true (list_any (is_directory_of name) names) (λ e.
    let found = any_is (is_directory_of name) names e in
    let below = (directory-Decides name found.0).0 found.2 in
    let long : length name ≡ length found.0 + suc (length below.0) = ap (λ (t : Text). length t) below.1 ∙ length-append found.0 (slash ∷ below.0) in
    let at : get_or name (length found.0) 0 ≡ slash = ap (λ (t : Text). get_or t (length found.0) 0) below.1 ∙ byte_at found.0 slash below.0 in
    let front : take (length found.0) name ≡ found.0 = ap (λ (t : Text). take (length found.0) t) below.1 ∙ front_at found.0 (slash ∷ below.0) in
    let no : has_name names (take (length found.0) name) ≡ false = none (length found.0) (omega arith) at in
    let yes : has_name names (take (length found.0) name) ≡ true = subst (λ (t : Text). has_name names t ≡ true) (sym front) (has_by names found.0 found.1) in
    false≢true (sym no ∙ yes))

-- ---- other lists of the same names

pub has_moved : (xs ys : List Text) (name : Text) → IsPermutation xs ys → has_name xs name ≡ has_name ys name
has_moved xs ys name moved = list_any-IsPermutation (bytes_eq name) xs ys moved

-- ---- pages by their addresses

pub has_address : (pages : List Entry) (at : Text) (o : Option (Bor Entry)) → MatchOption o (HasNone pages at) (λ e. HasThis pages at e.now) → is_some o ≡ has_name (addresses pages) at
has_address pages at None none =
    let long = length-map pages (λ (e : Entry). e.address) in
    sym (not_true (has_name (addresses pages) at) (λ e.
    let there = has_is (addresses pages) at e in
    let within : there.0 < length pages = omega (arith, there.1) in
    go pages there.0 within none there.2))
  where
    go : (es : List Entry) (k : ℕ) → k < length es → HasNone es at → get_or (addresses es) k at ≡ at → ⊥
    go [] k within none is = absurd (omega arith)
    go (x ∷ es) zero within none is = none 0 x (omega arith) is
    go (x ∷ es) (suc k) within none is = go es k (omega arith) (λ j d below same. none (suc j) d (omega arith) same) is
has_address pages at (Some e) this =
    let long = length-map pages (λ (e : Entry). e.address) in
    let there = this.0 in
    sym (has_by (addresses pages) at (there.0, omega (arith, there.1), get_or-map (λ (e : Entry). e.address) pages there.0 e.now at there.1 ∙ ap (λ (x : Entry). x.address) there.2 ∙ this.1))

-- ---- names at the places of addresses

ascending-rest : (k : Text) (ks : List Text) → IsAscending (k ∷ ks) → IsAscending ks
ascending-rest k ks up i j d less within = up (suc i) (suc j) d (omega arith) (omega arith)

pub name_there : (kept names : List Text) (at name : Text) (i : ℕ) → IsAscending kept → i < length kept → get_or kept i at ≡ at → i < length names → name ≡ get_or names i name → name_at kept names at ≡ Some name
name_there [] names at name i up within is there named = absurd (omega arith)
name_there (k ∷ kept) [] at name i up within is there named = absurd (omega arith)
name_there (k ∷ kept) (n ∷ names) at name zero up within is there named =
    ap (λ (b : Bool). cond b (Some n) (name_at kept names at)) (subst (λ (u : Text). bytes_eq k u ≡ true) is (eq_itself k)) ∙ ap (λ (t : Text). Some t) (sym named)
name_there (k ∷ kept) (n ∷ names) at name (suc i) up within is there named =
    let before : IsBefore k at = subst (IsBefore k) is (up 0 (suc i) at (omega arith) (omega arith)) in
    let other : bytes_eq k at ≡ false = eq_other k at (λ same. not_before_itself at (subst (λ (u : Text). IsBefore u at) same before)) in
    ap (λ (b : Bool). cond b (Some n) (name_at kept names at)) other ∙ name_there kept names at name i (ascending-rest k kept up) (omega arith) is (omega arith) named

pub name_past : (kept names : List Text) (at : Text) (i : ℕ) → IsAscending kept → i < length kept → get_or kept i at ≡ at → length names ≤ i → name_at kept names at ≡ None
name_past [] names at i up within is past = refl
name_past (k ∷ kept) [] at i up within is past = refl
name_past (k ∷ kept) (n ∷ names) at zero up within is past = absurd (omega arith)
name_past (k ∷ kept) (n ∷ names) at (suc i) up within is past =
    let before : IsBefore k at = subst (IsBefore k) is (up 0 (suc i) at (omega arith) (omega arith)) in
    let other : bytes_eq k at ≡ false = eq_other k at (λ same. not_before_itself at (subst (λ (u : Text). IsBefore u at) same before)) in
    ap (λ (b : Bool). cond b (Some n) (name_at kept names at)) other ∙ name_past kept names at i (ascending-rest k kept up) (omega arith) is (omega arith)

or_off : (b c : Bool) → (b || c) ≡ false → (b ≡ false) × (c ≡ false)
or_off true c e = cc
or_off false c e = (refl, e)

sides : (u v : Text) → bytes_eq v u ≡ false → bytes_eq u v ≡ false
sides u v e = eq_other u v (λ same. false≢true (sym e ∙ subst (λ (w : Text). bytes_eq v w ≡ true) (sym same) (eq_itself v)))

pub name_none : (kept names : List Text) (at : Text) → has_name kept at ≡ false → name_at kept names at ≡ None
name_none [] names at none = refl
name_none (k ∷ kept) [] at none = refl
name_none (k ∷ kept) (n ∷ names) at none =
    let both = or_off (bytes_eq at k) (has_name kept at) none in
    ap (λ (b : Bool). cond b (Some n) (name_at kept names at)) (sides k at both.0) ∙ name_none kept names at both.1
