-- Among a list of plain names and a map of given ones not every numbered name can be taken.
use Rattle.std.proofs.Common.{zero, suc, ◌≡◌, ℕ, ◌+◌, ◌≤◌, ◌<◌, ◌^◌, Bool, true, false, ◌||◌, cond, List, [], ◌∷◌, ◌++◌, map, length, take, drop, Contains, sym, refl, ap, ◌∙◌, subst, inl, inr, arith, append_assoc}
use Rattle.std.proofs.lemmas.Bool.{or_cases, false_from_ne_true, ne_eqb}
use Rattle.std.proofs.lemmas.Cmp.{nat_list_eq_equiv}
use Rattle.std.proofs.lemmas.List.{length-map, length-append}
use Rattle.std.proofs.lemmas.Map.Made.{length-le_from_is_member, is_some-lookup}
use Rattle.std.proofs.lemmas.Map.Entries.{length-keys_of}
use Rattle.std.proofs.lemmas.Map.Text.{is_eq-slice_cmp}
use Rattle.std.proofs.lemmas.Slice.Eq.{bytes_eq-Decides}
use Rattle.std.proofs.Math.Seq.{take-append_seam, drop-append_seam}
use Rattle.std.specs.BTreeMap.{BTreeMap, btree_map_len}
use Rattle.std.specs.Fmt.{decimal}
use Rattle.std.specs.List.{IsDistinct, AllByRecursion, list_any}
use Rattle.std.specs.Map.{keys_of}
use Rattle.std.specs.Ordering.{is_eq, nat_cmp}
use Rattle.std.specs.Cmp.Lexicographic.{slice_cmp}
use Rattle.std.specs.Str.{bytes_eq}
use Rattle.std.specs.String.{string_bytes}
use Rattle.std.specs.declared.string.String.{String}
use Rattle.local_names.specs.PlainNames.{slash, is_slash}
use Rattle.local_names.specs.Names.{IsDirectoryOf, numbered_by}
use Rattle.local_names.specs.inner.Taken.{IsNameTaken}
use Rattle.local_names.specs.Endings.{stem_of, ending_of}
use Rattle.local_names.proofs.EndingLaws.{NoSlash, stem_ending, no_slash_ending}
use Rattle.local_names.proofs.NamingLaws.{no_slash_number, numbered_name-zero, numbered_name-suc, numbered_name-injective}

-- the first n numbered names, the last first
numbered_names : Bool → List ℕ → ℕ → List (List ℕ)
numbered_names h own zero = []
numbered_names h own (suc n) = numbered_by h own n ∷ numbered_names h own n

length-numbered_names : (h : Bool) (own : List ℕ) (n : ℕ) → length (numbered_names h own n) ≡ n
unfolding numbered_names
length-numbered_names h own zero = refl
length-numbered_names h own (suc n) = ap suc (length-numbered_names h own n)

equal_bytes : (xs ys : List ℕ) → bytes_eq xs ys ≡ true → xs ≡ ys
equal_bytes xs ys e = (bytes_eq-Decides xs ys).0 e

member_is_numbered : (h : Bool) (own : List ℕ) (n : ℕ) (q : List ℕ) → list_any (bytes_eq q) (numbered_names h own n) ≡ true → (k : ℕ) × (k < n) × (q ≡ numbered_by h own k)
unfolding numbered_names
member_is_numbered h own zero q e = cc
member_is_numbered h own (suc n) q e =
    elim (or_cases _ _ e) [
      | inl here ↦ (n, omega arith, equal_bytes q (numbered_by h own n) here)
      | inr later ↦ (let m = member_is_numbered h own n q later in (m.0, omega arith, m.2))
    ]

numbered_apart : (h : Bool) (own : List ℕ) (m n : ℕ) → n ≤ m → m < 2 ^ 64 → AllByRecursion (λ y. bytes_eq (numbered_by h own m) y ≡ false) (numbered_names h own n)
unfolding numbered_names
numbered_apart h own m zero order small = tt
numbered_apart h own m (suc n) order small = (
  false_from_ne_true _ (λ e. let same = numbered_name-injective h own m n small (omega arith) (equal_bytes (numbered_by h own m) (numbered_by h own n) e) in omega arith),
  numbered_apart h own m n (omega arith) small,
)

numbered_distinct : (h : Bool) (own : List ℕ) (n : ℕ) → n < 2 ^ 64 → IsDistinct bytes_eq (numbered_names h own n)
unfolding numbered_names IsDistinct
numbered_distinct h own zero small = tt
numbered_distinct h own (suc n) small = (numbered_apart h own n n (omega arith) (omega arith), numbered_distinct h own n (omega arith))

-- names among which the first n numbered ones all are, are at least n
at_least : (h : Bool) (own : List ℕ) (n : ℕ) (names : List (List ℕ)) → n < 2 ^ 64 → ((k : ℕ) → k < n → list_any (bytes_eq (numbered_by h own k)) names ≡ true) → n ≤ length names
at_least h own n names small all =
    let among : (q : List ℕ) → list_any (bytes_eq q) (numbered_names h own n) ≡ true → list_any (bytes_eq q) names ≡ true =
    λ q e.
    let m = member_is_numbered h own n q e in
    subst (λ x. list_any (bytes_eq x) names ≡ true) (sym m.2) (all m.0 m.1) in
    let count = length-le_from_is_member nat_list_eq_equiv (numbered_names h own n) names (numbered_distinct h own n small) among in
    omega (arith, count, length-numbered_names h own n)

-- ---- the one numbered name that is a directory of a plain name

-- the bytes before the next slash
until_slash : List ℕ → List ℕ
until_slash [] = []
until_slash (b ∷ bs) = cond (is_slash b) [] (b ∷ until_slash bs)

until_slash-none : (suffix rest : List ℕ) → NoSlash suffix → until_slash (suffix ++ slash ∷ rest) ≡ suffix
unfolding until_slash
until_slash-none [] rest none = refl
until_slash-none (b ∷ suffix) rest none =
    subst (λ t. cond t [] (b ∷ until_slash (suffix ++ slash ∷ rest)) ≡ b ∷ suffix) (sym (ne_eqb b slash none.0)) (ap (λ bs. b ∷ bs) (until_slash-none suffix rest none.1))

-- the directory of a plain name that may be a numbered name of `own`
nearest : List ℕ → List ℕ → List ℕ
nearest own plain = take (length own) plain ++ until_slash (drop (length own) plain)

nearest_is : (own suffix plain rest : List ℕ) → NoSlash suffix → plain ≡ (own ++ suffix) ++ slash ∷ rest → nearest own plain ≡ own ++ suffix
unfolding nearest
nearest_is own suffix plain rest none is =
    let cut : plain ≡ own ++ (suffix ++ slash ∷ rest) = is ∙ append_assoc own suffix (slash ∷ rest) in
    let front : take (length own) plain ≡ own = ap (take (length own)) cut ∙ take-append_seam own (suffix ++ slash ∷ rest) in
    let back : drop (length own) plain ≡ suffix ++ slash ∷ rest = ap (drop (length own)) cut ∙ drop-append_seam own (suffix ++ slash ∷ rest) in
    ap (λ x. x ++ until_slash (drop (length own) plain)) front ∙ ap (λ x. own ++ until_slash x) back ∙ ap (λ x. own ++ x) (until_slash-none suffix rest none)

nearest_numbered : (h : Bool) (own plain : List ℕ) (k : ℕ) → IsDirectoryOf plain (numbered_by h own k) → nearest (stem_of h own) plain ≡ numbered_by h own k
nearest_numbered h own plain zero (rest, is) =
    let e = stem_ending h own ∙ sym (numbered_name-zero h own) in
    nearest_is (stem_of h own) (ending_of h own) plain rest (no_slash_ending h own) (is ∙ ap (λ x. x ++ slash ∷ rest) (sym e)) ∙ e
nearest_numbered h own plain (suc k) (rest, is) =
    let e = numbered_name-suc h own k in
    nearest_is (stem_of h own) (46 ∷ (decimal (suc k) ++ ending_of h own)) plain rest (no_slash_number h own (suc k)) (is ∙ ap (λ x. x ++ slash ∷ rest) e) ∙ sym e

any_of : (q : List ℕ) (names : List (List ℕ)) → Contains names q → list_any (bytes_eq q) names ≡ true
any_of q [] (k, below, is) = absurd (omega arith)
any_of q (name ∷ names) (zero, below, is) = ap (λ b. b || list_any (bytes_eq q) names) ((bytes_eq-Decides q name).1 (sym is))
any_of q (name ∷ names) (suc k, below, is) = or_true (bytes_eq q name) (list_any (bytes_eq q) names) (any_of q names (k, omega arith, is))
  where
    or_true : (a b : Bool) → b ≡ true → (a || b) ≡ true
    or_true true b e = refl
    or_true false b e = e

any_map : {K : Type 0} (f : K → List ℕ) (p : List ℕ → Bool) (keys : List K) → list_any p (map f keys) ≡ list_any (λ k. p (f k)) keys
any_map f p [] = refl
any_map f p (k ∷ keys) = ap (λ b. p (f k) || b) (any_map f p keys)

any_same : {K : Type 0} (p q : K → Bool) → ((k : K) → p k ≡ q k) → (keys : List K) → list_any p keys ≡ list_any q keys
any_same p q same [] = refl
any_same p q same (k ∷ keys) = ap (λ b. b || list_any p keys) (same k) ∙ ap (λ b. q k || b) (any_same p q same keys)

any_left : (p : List ℕ → Bool) (xs ys : List (List ℕ)) → list_any p xs ≡ true → list_any p (xs ++ ys) ≡ true
any_left p [] ys e = cc
any_left p (x ∷ xs) ys e = elim (or_cases (p x) (list_any p xs) e) [ inl here ↦ ap (λ b. b || list_any p (xs ++ ys)) here | inr later ↦ or_true (p x) (list_any p (xs ++ ys)) (any_left p xs ys later) ]
  where
    or_true : (a b : Bool) → b ≡ true → (a || b) ≡ true
    or_true true b e = refl
    or_true false b e = e

any_right : (p : List ℕ → Bool) (xs ys : List (List ℕ)) → list_any p ys ≡ true → list_any p (xs ++ ys) ≡ true
any_right p [] ys e = e
any_right p (x ∷ xs) ys e = or_true (p x) (list_any p (xs ++ ys)) (any_right p xs ys e)
  where
    or_true : (a b : Bool) → b ≡ true → (a || b) ≡ true
    or_true true b e = refl
    or_true false b e = e

nearest_contained : (own q : List ℕ) (plain : List (List ℕ)) (x : List ℕ) → Contains plain x → nearest own x ≡ q → Contains (map (nearest own) plain) q
nearest_contained own q [] x (k, below, is) e = absurd (omega arith)
nearest_contained own q (p ∷ plain) x (zero, below, is) e = (zero, omega arith, ap (nearest own) is ∙ e)
nearest_contained own q (p ∷ plain) x (suc k, below, is) e =
    let later = nearest_contained own q plain x (k, omega arith, is) e in (suc later.0, omega (arith, later.1), later.2)

-- numbers to 2 ^ 64 - 1 whose names are all taken can't be
pub taken_below : {Y : Type 0} (h : Bool) (plain : List (List ℕ)) (next : BTreeMap (String Y) ℕ) (own : List ℕ) (n : ℕ) → n < 2 ^ 64 → ((k : ℕ) → k < n → IsNameTaken plain next (numbered_by h own k)) → n ≤ btree_map_len next + length plain
taken_below h plain next own n small all =
    let keys = map string_bytes (keys_of next.entries) in
    let near = map (nearest (stem_of h own)) plain in
    let key_of : (q : List ℕ) → list_any (bytes_eq q) keys ≡ list_any (λ k. is_eq (slice_cmp nat_cmp q (string_bytes k))) (keys_of next.entries) =
    λ q. any_map string_bytes (bytes_eq q) (keys_of next.entries) ∙ any_same (λ k. bytes_eq q (string_bytes k)) (λ k. is_eq (slice_cmp nat_cmp q (string_bytes k))) (λ k. sym (is_eq-slice_cmp q (string_bytes k))) (keys_of next.entries) in
    let most = at_least h own n (keys ++ near) small (λ k below. elim (all k below) [
      | inl (x, held, inside) ↦ any_right (bytes_eq (numbered_by h own k)) keys near (any_of (numbered_by h own k) near (nearest_contained (stem_of h own) (numbered_by h own k) plain x held (nearest_numbered h own x k inside)))
      | inr has ↦ any_left (bytes_eq (numbered_by h own k)) keys near (key_of (numbered_by h own k) ∙ sym (is_some-lookup (λ j. is_eq (slice_cmp nat_cmp (numbered_by h own k) (string_bytes j))) next.entries) ∙ has)
    ]) in
    let sizes = length-append keys near in
    let some = length-map (keys_of next.entries) string_bytes in
    let others = length-map plain (nearest (stem_of h own)) in
    let entries = length-keys_of next.entries in
    omega arith
