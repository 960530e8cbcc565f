-- What the comparison of notes with the table rests on.
use Rattle.std.proofs.Common.{◌≡◌, ◌≢◌, ℕ, ◌+◌, ◌<◌, ◌≤◌, inl, inr, true, false, List, [], ◌∷◌, length, get_or, map, zero, suc, Some, None, Option, Result, Ok, Err, refl, sym, ap, ◌∙◌, subst, arith}
use Rattle.std.specs.Prelude.{All, Contains, IsSome}
use Rattle.std.specs.List.{filter_map}
use Rattle.std.specs.Result.{is_ok}
use Rattle.std.proofs.lemmas.Bool.{false≢true}
use Rattle.std.proofs.Math.Nat.{eq-or-lt_of_le}
use Rattle.std.proofs.lemmas.List.{length-map, get_or-map, get_or_default}
use Rattle.std.proofs.lemmas.Map.Lookups.{exact_bytes}
use Rattle.std.specs.Cmp.Lexicographic.{slice_cmp, nat_list_cmp_total}
use Rattle.std.specs.List.Sorted.{IsSortedBy, IsBinarySearchResult, IsSearchInRange}
use Rattle.std.specs.Ordering.{nat_cmp, is_lt, ordering_reverse}
use Rattle.std.specs.declared.cmp.Ordering.{Ordering}
use Rattle.std.specs.declared.cmp.Ordering.TheVariants.{Less, Equal, Greater}
use Rattle.std.proofs.lemmas.List.Elements.{All-nil, All-cons, All-weaker}
use Rattle.std.proofs.lemmas.List.Kept.{AllPairs-cons}
use Rattle.frontier_core.specs.Tables.{Text, keys, lookup, IsOnce}
use Rattle.frontier_core.specs.Machine.{Slot, OriginRules, slot_outcome, outcome_in, known_rules_in}
use Rattle.frontier_core.specs.Readers.{record_of, ruled_of}
use Rattle.frontier_core.proofs.TableLaws.{same, other, compare_texts}
use Rattle.frontier_core.proofs.RouteLaws.{contains_tail, contains_cases}
use Rattle.fetcher.specs.declared.outcome.Outcome.{Outcome}
use Rattle.robots_rules.specs.Access.{RuleSetValue}
use Rattle.harvest.specs.Entries.{recorded_addresses, ruled_origins}
use Rattle.harvest.proofs.GatherLaws.{recorded_held, ruled_asked}
use Rattle.address.specs.AddressOrder.{IsBefore, IsAscending}

-- what a binary search by a name finds is there
pub found_named : {X : Type 0} (key : X → Text) (xs : List X) (u : Text) (r : Result ℕ ℕ) → is_ok r ≡ true → IsSearchInRange r (length xs)
    → IsBinarySearchResult (λ (x : X). slice_cmp nat_cmp (key x) u) xs r → (x : X) → Contains (map key xs) u
found_named key xs u (Ok i) ok within found d =
    let long : length (map key xs) ≡ length xs = length-map xs key in
    (i, omega (arith, long, within), get_or-map key xs i d u within ∙ exact_bytes (key (get_or xs i d)) u (found d))
found_named key xs u (Err i) ok within found d = cc

-- an address whose outcome is in the table is among the records
pub recorded_among : (entries : List (Text × Slot)) (u : Text) → IsSome (slot_outcome (lookup entries u)) → Contains (recorded_addresses (filter_map record_of entries)) u
recorded_among [] u some = absurd (false≢true some)
recorded_among (entry ∷ entries) u some = elim (compare_texts entry.0 u) [
  | same h t ↦ here h (outcome_in entry.1.progress) refl (rw t at some)
  | other h t ↦ later (outcome_in entry.1.progress) refl (recorded_among entries u (rw t at some))
]
  where
    here : entry.0 ≡ u → (o : Option Outcome) → outcome_in entry.1.progress ≡ o → IsSome (outcome_in entry.1.progress) → Contains (recorded_addresses (filter_map record_of (entry ∷ entries))) u
    here h None is known = absurd (false≢true (rw is at known))
    here h (Some x) is known = rw is (zero, omega arith, h)

    later : (o : Option Outcome) → outcome_in entry.1.progress ≡ o → Contains (recorded_addresses (filter_map record_of entries)) u → Contains (recorded_addresses (filter_map record_of (entry ∷ entries))) u
    later None is among = rw is among
    later (Some x) is among = rw is (contains_tail entry.0 u (recorded_addresses (filter_map record_of entries)) among)

-- an origin whose rules are in the table is among the known ones
pub ruled_among : (origins : List (Text × OriginRules)) (o : Text) → IsSome (known_rules_in (lookup origins o)) → Contains (ruled_origins (filter_map ruled_of origins)) o
ruled_among [] o some = absurd (false≢true some)
ruled_among (origin ∷ origins) o some = elim (compare_texts origin.0 o) [
  | same h t ↦ here h (known_rules_in (Some origin.1)) refl (rw t at some)
  | other h t ↦ later (known_rules_in (Some origin.1)) refl (ruled_among origins o (rw t at some))
]
  where
    here : origin.0 ≡ o → (r : Option RuleSetValue) → known_rules_in (Some origin.1) ≡ r → IsSome (known_rules_in (Some origin.1)) → Contains (ruled_origins (filter_map ruled_of (origin ∷ origins))) o
    here h None is known = absurd (false≢true (rw is at known))
    here h (Some x) is known = rw is (zero, omega arith, h)

    later : (r : Option RuleSetValue) → known_rules_in (Some origin.1) ≡ r → Contains (ruled_origins (filter_map ruled_of origins)) o → Contains (ruled_origins (filter_map ruled_of (origin ∷ origins))) o
    later None is among = rw is among
    later (Some x) is among = rw is (contains_tail origin.0 o (ruled_origins (filter_map ruled_of origins)) among)

-- an address among the records has an outcome in the table, if no address is held twice
pub stands_recorded : (entries : List (Text × Slot)) (u : Text) → IsOnce (keys entries) → Contains (recorded_addresses (filter_map record_of entries)) u → IsSome (slot_outcome (lookup entries u))
stands_recorded [] u once (k, lt, is) = absurd (omega (arith, lt))
stands_recorded (entry ∷ entries) u once among = elim (compare_texts entry.0 u) [
  | same h t ↦ rw t (here h (outcome_in entry.1.progress) refl among)
  | other h t ↦ rw t (later h (λ rest. stands_recorded entries u once.1 rest) (outcome_in entry.1.progress) refl among)
]
  where
    here : entry.0 ≡ u → (o : Option Outcome) → outcome_in entry.1.progress ≡ o → Contains (recorded_addresses (filter_map record_of (entry ∷ entries))) u → IsSome (outcome_in entry.1.progress)
    here h None is there = absurd (once.0 (subst (λ (w : Text). Contains (keys entries) w) (sym h) (recorded_held entries u (rw is at there))))
    here h (Some x) is there = rw is refl

    later : entry.0 ≢ u → (Contains (recorded_addresses (filter_map record_of entries)) u → IsSome (slot_outcome (lookup entries u))) → (o : Option Outcome) → outcome_in entry.1.progress ≡ o → Contains (recorded_addresses (filter_map record_of (entry ∷ entries))) u → IsSome (slot_outcome (lookup entries u))
    later h others None is there = others (rw is at there)
    later h others (Some x) is there = elim (contains_cases entry.0 u (recorded_addresses (filter_map record_of entries)) (rw is at there)) [
      | inl first ↦ absurd (h first)
      | inr rest ↦ others rest
    ]

-- an origin among the known ones has rules in the table, if no origin's are requested twice
pub stands_ruled : (origins : List (Text × OriginRules)) (o : Text) → IsOnce (keys origins) → Contains (ruled_origins (filter_map ruled_of origins)) o → IsSome (known_rules_in (lookup origins o))
stands_ruled [] o once (k, lt, is) = absurd (omega (arith, lt))
stands_ruled (origin ∷ origins) o once among = elim (compare_texts origin.0 o) [
  | same h t ↦ rw t (here h (known_rules_in (Some origin.1)) refl among)
  | other h t ↦ rw t (later h (λ rest. stands_ruled origins o once.1 rest) (known_rules_in (Some origin.1)) refl among)
]
  where
    here : origin.0 ≡ o → (r : Option RuleSetValue) → known_rules_in (Some origin.1) ≡ r → Contains (ruled_origins (filter_map ruled_of (origin ∷ origins))) o → IsSome (known_rules_in (Some origin.1))
    here h None is there = absurd (once.0 (subst (λ (w : Text). Contains (keys origins) w) (sym h) (ruled_asked origins o (rw is at there))))
    here h (Some x) is there = rw is refl

    later : origin.0 ≢ o → (Contains (ruled_origins (filter_map ruled_of origins)) o → IsSome (known_rules_in (lookup origins o))) → (r : Option RuleSetValue) → known_rules_in (Some origin.1) ≡ r → Contains (ruled_origins (filter_map ruled_of (origin ∷ origins))) o → IsSome (known_rules_in (lookup origins o))
    later h others None is there = others (rw is at there)
    later h others (Some x) is there = elim (contains_cases origin.0 o (ruled_origins (filter_map ruled_of origins)) (rw is at there)) [
      | inl first ↦ absurd (h first)
      | inr rest ↦ others rest
    ]

-- one name more that is among others
pub more_among : (first : Text) (names others : List Text) → Contains others first → ((u : Text) → Contains names u → Contains others u) → (u : Text) → Contains (first ∷ names) u → Contains others u
more_among first names others here later u among = elim (contains_cases first u names among) [
  | inl is ↦ subst (λ (w : Text). Contains others w) is here
  | inr rest ↦ later u rest
]

-- ---- ascending names

less_lt : (o : Ordering) → is_lt o ≡ true → o ≡ Less
less_lt Less h = refl
less_lt Equal h = cc
less_lt Greater h = cc

is_before_trans : (u v w : Text) → IsBefore u v → IsBefore v w → IsBefore u w
is_before_trans u v w a b = ap is_lt (nat_list_cmp_total.trans u v w (less_lt _ a) (less_lt _ b))

-- no name is before itself
pub not_before_self : (u : Text) → IsBefore u u → ⊥
not_before_self u h = go (slice_cmp nat_cmp u u) (nat_list_cmp_total.antisymm u u) h
  where
    go : (o : Ordering) → o ≡ ordering_reverse o → is_lt o ≡ true → ⊥
    go Less e h = cc
    go Equal e h = cc
    go Greater e h = cc

-- each name is before the next one
abbrev AreSteps : List Text → Type 0
AreSteps names = (j : ℕ) → j + 1 < length names → IsBefore (get_or names j []) (get_or names (j + 1) [])

steps_tail : (u : Text) (names : List Text) → AreSteps (u ∷ names) → AreSteps names
steps_tail u names steps j lt =
    let e : suc j + 1 ≡ suc (j + 1) = omega arith in
    subst (λ (n : ℕ). IsBefore (get_or names j []) (get_or (u ∷ names) n [])) e (steps (suc j) (omega (arith, lt)))

before_all : (u : Text) (names : List Text) → AreSteps (u ∷ names) → All (IsBefore u) names
before_all u [] steps = All-nil (IsBefore u)
before_all u (v ∷ names) steps =
    let next : IsBefore u v = steps zero (omega arith) in
    All-cons (IsBefore u) v names next (All-weaker (IsBefore v) (IsBefore u) (λ w h. is_before_trans u v w next h) names (before_all v names (steps_tail u (v ∷ names) steps)))

-- names each of which is before the next one ascend
pub ascending_steps : (names : List Text) → AreSteps names → IsAscending names
ascending_steps [] steps = λ i j d lt lj. absurd (omega arith)
ascending_steps (u ∷ names) steps = AllPairs-cons IsBefore u names (before_all u names steps) (ascending_steps names (steps_tail u names steps))

-- names that ascend occur once
pub once_ascending : (names : List Text) → IsAscending names → IsOnce names
once_ascending [] up = tt
once_ascending (u ∷ names) up = (
  (λ among. let (k, lt, is) = among in not_before_self u (subst (λ (w : Text). IsBefore u w) is (up zero (suc k) u (omega arith) (omega arith)))),
  once_ascending names (λ i j d lt lj. up (suc i) (suc j) d (omega arith) (omega arith)),
)

-- names that occur once differ from their neighbours
steps_differ : (names : List Text) → IsOnce names → (j : ℕ) → j + 1 < length names → get_or names j [] ≢ get_or names (j + 1) []
steps_differ [] once j lt = absurd (omega (arith, lt))
steps_differ (u ∷ names) once zero lt = λ same_name. once.0 (zero, omega (arith, lt), get_or_default names 0 u [] (omega (arith, lt)) ∙ sym same_name)
steps_differ (u ∷ names) once (suc j) lt =
    let e : suc j + 1 ≡ suc (j + 1) = omega arith in
    subst (λ (n : ℕ). get_or names j [] ≢ get_or (u ∷ names) n []) (sym e) (steps_differ names once.1 j (omega (arith, lt)))

-- of two names that differ one is before the other
before_other : (u v : Text) → is_lt (slice_cmp nat_cmp v u) ≡ false → u ≢ v → IsBefore u v
before_other u v behind apart = go (slice_cmp nat_cmp u v) refl
  where
    go : (o : Ordering) → slice_cmp nat_cmp u v ≡ o → is_lt (slice_cmp nat_cmp u v) ≡ true
    go Less e = ap is_lt e
    go Equal e = absurd (apart (exact_bytes u v e))
    go Greater e = absurd (false≢true (sym behind ∙ ap is_lt (nat_list_cmp_total.antisymm v u ∙ ap ordering_reverse e)))

-- names in order ascend if none occurs twice
pub ascending_sorted : {X : Type 0} (key : X → Text) (xs : List X) → IsSortedBy (λ (x y : X). is_lt (slice_cmp nat_cmp (key x) (key y))) xs → IsOnce (map key xs) → IsAscending (map key xs)
ascending_sorted key [] sorted once = ascending_steps [] (λ j lt. absurd (omega (arith, lt)))
ascending_sorted {X} key (x ∷ xs) sorted once = ascending_steps (map key (x ∷ xs)) go
  where
    go : AreSteps (map key (x ∷ xs))
    go j lt =
        let long : length (map key (x ∷ xs)) ≡ length (x ∷ xs) = length-map (x ∷ xs) key in
        let at : get_or (map key (x ∷ xs)) j [] ≡ key (get_or (x ∷ xs) j x) = get_or-map key (x ∷ xs) j x [] (omega (arith, long, lt)) in
        let next : get_or (map key (x ∷ xs)) (j + 1) [] ≡ key (get_or (x ∷ xs) (j + 1) x) = get_or-map key (x ∷ xs) (j + 1) x [] (omega (arith, long, lt)) in
        before_other _ _ (rw (at, next) (sorted j x (omega arith) (omega (arith, long, lt)))) (steps_differ (map key (x ∷ xs)) once j lt)

-- one name more
pub ascends_more : {X : Type 0} (key : X → Text) (xs : List X) (i k : ℕ) (p q : X) → i + 1 ≡ k → k < length xs → p ≡ get_or xs i p → q ≡ get_or xs k q → IsBefore (key p) (key q)
    → ((j : ℕ) → j + 1 < k → IsBefore (get_or (map key xs) j []) (get_or (map key xs) (j + 1) []))
    → (j : ℕ) → j + 1 < k + 1 → IsBefore (get_or (map key xs) j []) (get_or (map key xs) (j + 1) [])
ascends_more key xs i k p q next in_xs p_is q_is up so_far j h =
    let first : get_or (map key xs) i [] ≡ key p = get_or-map key xs i p [] (omega arith) ∙ ap key (sym p_is) in
    let second : get_or (map key xs) k [] ≡ key q = get_or-map key xs k q [] in_xs ∙ ap key (sym q_is) in
    elim (eq-or-lt_of_le {n = j + 1} {m = k} (omega arith)) [
      | inl here ↦ let at : j ≡ i = omega arith in rw (at, next, first, second) up
      | inr below ↦ so_far j below
    ]

pub ascends_whole : {X : Type 0} (key : X → Text) (xs : List X) (k : ℕ) → length xs ≤ k
    → ((j : ℕ) → j + 1 < k → IsBefore (get_or (map key xs) j []) (get_or (map key xs) (j + 1) [])) → IsAscending (map key xs)
ascends_whole key xs k whole up = ascending_steps (map key xs) (λ j lt. up j (let long : length (map key xs) ≡ length xs = length-map xs key in omega (arith, long, whole, lt)))

-- names of which one isn't before the next don't ascend
pub not_ascending : {X : Type 0} (key : X → Text) (xs : List X) (i k : ℕ) (p q : X) → i + 1 ≡ k → k < length xs → p ≡ get_or xs i p → q ≡ get_or xs k q
    → is_lt (slice_cmp nat_cmp (key p) (key q)) ≡ false → ¬ IsAscending (map key xs)
not_ascending key xs i k p q next in_xs p_is q_is behind up =
    let long : length (map key xs) ≡ length xs = length-map xs key in
    let first : get_or (map key xs) i [] ≡ key p = get_or-map key xs i p [] (omega arith) ∙ ap key (sym p_is) in
    let second : get_or (map key xs) k [] ≡ key q = get_or-map key xs k q [] in_xs ∙ ap key (sym q_is) in
    let before : is_lt (slice_cmp nat_cmp (key p) (key q)) ≡ true =
    sym (ap (λ (x : Text). is_lt (slice_cmp nat_cmp x (key q))) first)
    ∙ sym (ap (λ (x : Text). is_lt (slice_cmp nat_cmp (get_or (map key xs) i []) x)) second)
    ∙ up i k [] (omega arith) (omega (arith, long, in_xs)) in
    false≢true (sym behind ∙ before)

-- one thing more of which it holds
pub all_more : {X : Type 0} (P : X → Type 0) (xs : List X) (i : ℕ) (x : X) → i < length xs → x ≡ get_or xs i x → P x → ((k : ℕ) (d : X) → k < i → P (get_or xs k d))
    → (k : ℕ) (d : X) → k < i + 1 → P (get_or xs k d)
all_more P xs i x within is here so_far k d h =
    elim (eq-or-lt_of_le {n = k} {m = i} (omega arith)) [
      | inl at ↦ rw at (subst P (is ∙ get_or_default xs i x d within) here)
      | inr below ↦ so_far k d below
    ]
