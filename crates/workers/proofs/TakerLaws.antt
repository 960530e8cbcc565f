-- Who noted what, by the lines of a trace, and what that says of the fetchers.
use Rattle.std.proofs.Common.{◌≡◌, true, nat_eq, ℕ, ◌+◌, ◌<◌, inl, inr, List, [], ◌∷◌, ◌++◌, length, length-append, get_or, slice_set, map, suc, sym, ap, ◌∙◌, subst, arith}
use Rattle.std.specs.Prelude.{All, Contains, IfSome, IsPermutation}
use Rattle.std.proofs.lemmas.Bool.{cases_lt, eqb-true, eq-eqb}
use Rattle.std.proofs.lemmas.List.{length-map, get_or-map, get_or_default, get_or_append_left, get_or-append-add}
use Rattle.std.proofs.lemmas.List.Elements.{All-nil, All-weaker}
use Rattle.std.proofs.lemmas.List.Sorted.{All-permutation}
use Rattle.fetcher.specs.declared.fetcher.Ask.{Ask}
use Rattle.fetcher.specs.declared.fetcher.Fetcher.{Ghosts as Meaning}
use Rattle.frontier_core.specs.Tables.{Text}
use Rattle.frontier_core.specs.declared.event.Event.{Event}
use Rattle.frontier_core.specs.declared.event.Event.TheVariants as line
use Rattle.address.specs.AddressOrder.{IsBefore, IsAscending}
use Rattle.workers.specs.Asks.{gained}
use Rattle.workers.specs.OneWorker.{worker_of, only_worker, AreByOne}
use Rattle.workers.specs.Takers.{IsOwn, AreOwn}
use Rattle.workers.specs.inner.Takers.{IsNotedBy, AreNotedBy}
use Rattle.workers.specs.declared.note.PageNote.{PageNote}
use Rattle.workers.specs.declared.note.RulesNote.{RulesNote}
use Rattle.workers.proofs.ComparisonLaws.{not_before_self}

-- ---- notes that are in order

-- of names that ascend no two are the same
not_same : (names : List Text) → IsAscending names → (i j : ℕ) (d : Text) → i < j → j < length names → get_or names i d ≡ get_or names j d → ⊥
not_same names up i j d below within same = not_before_self (get_or names j d) (subst (λ (u : Text). IsBefore u (get_or names j d)) same (up i j d below within))

one_place : (names : List Text) → IsAscending names → (i j : ℕ) (d : Text) → i < length names → j < length names → get_or names i d ≡ get_or names j d → i ≡ j
one_place names up i j d within within' same = elim (cases_lt i j) [
  | inl below ↦ absurd (not_same names up i j d below within' same)
  | inr least ↦ elim (cases_lt j i) [
    | inl above ↦ absurd (not_same names up j i d above within (sym same))
    | inr most ↦ omega arith
  ]
]

module _ {X : Type 0} (key : X → Text) (worker : X → ℕ) where
  -- what holds of the only thing of this name holds of each
  by_found : (xs : List X) (u : Text) (i n : ℕ) → IsAscending (map key xs) → i < length xs → ((d : X) → key (get_or xs i d) ≡ u) → ((d : X) → worker (get_or xs i d) ≡ n)
      → All (λ x. key x ≡ u → worker x ≡ n) xs
  by_found xs u i n up within here by k d lt same =
      let long : length (map key xs) ≡ length xs = length-map xs key in
      let names : get_or (map key xs) k u ≡ get_or (map key xs) i u = get_or-map key xs k d u lt ∙ same ∙ sym (get_or-map key xs i d u within ∙ here d) in
      let at : k ≡ i = one_place (map key xs) up k i u (omega (arith, long, lt)) (omega (arith, long, within)) names in
      subst (λ (j : ℕ). worker (get_or xs j d) ≡ n) (sym at) (by d)

  -- and so does what holds of what is found
  pub found_by : (xs : List X) (u : Text) (i n : ℕ) (x : X) → IsAscending (map key xs) → i < length xs → ((d : X) → key (get_or xs i d) ≡ u)
      → (nat_eq (worker (get_or xs i x)) n ≡ true → All (λ x. key x ≡ u → worker x ≡ n) xs) × (All (λ x. key x ≡ u → worker x ≡ n) xs → nat_eq (worker (get_or xs i x)) n ≡ true)
  found_by xs u i n x up within here = (
    (λ same. by_found xs u i n up within here (λ d. ap worker (get_or_default xs i d x within) ∙ eqb-true (worker (get_or xs i x)) n same)),
    λ all. eq-eqb (worker (get_or xs i x)) n (all i x within (here x)),
  )

  -- if nothing has this name there is nothing to say
  pub by_none : (xs : List X) (u : Text) (n : ℕ) → ¬ Contains (map key xs) u → All (λ x. key x ≡ u → worker x ≡ n) xs
  by_none xs u n none k d lt same =
      let long : length (map key xs) ≡ length xs = length-map xs key in
      absurd (none (k, omega (arith, long, lt), get_or-map key xs k d u lt ∙ same))

  -- what is noted under a name is noted by the worker of that name, and by the one that noted all
  pub worker_is : (xs : List X) (u : Text) (w n : ℕ) → Contains (map key xs) u → All (λ x. key x ≡ u → worker x ≡ w) xs → All (λ x. worker x ≡ n) xs → w ≡ n
  worker_is [] u w n (k, lt, is) by own = absurd (omega (arith, lt))
  worker_is (x ∷ xs) u w n (k, lt, is) by own =
      let long : length (map key (x ∷ xs)) ≡ length (x ∷ xs) = length-map (x ∷ xs) key in
      let within : k < length (x ∷ xs) = omega (arith, long, lt) in
      sym (by k x within (sym (get_or-map key (x ∷ xs) k x u within) ∙ is)) ∙ own k x within

-- ---- lines

all_left : {X : Type 0} (P : X → Type 0) (xs ys : List X) → All P (xs ++ ys) → All P xs
all_left P xs ys all k d lt = subst P (get_or_append_left xs ys d k lt) (all k d (omega (arith, lt, length-append xs ys)))

all_right : {X : Type 0} (P : X → Type 0) (xs ys : List X) → All P (xs ++ ys) → All P ys
all_right P xs ys all k d lt = subst P (get_or-append-add xs ys k d) (all (length xs + k) d (omega (arith, lt, length-append xs ys)))

-- what a line says of notes it says of some of them
pub noted_left : {B : Type 0} (xs ys : List (PageNote B)) (zs ws : List RulesNote) (event : Event) → IsNotedBy (xs ++ ys) (zs ++ ws) event → IsNotedBy xs zs event
noted_left {B = B} xs ys zs ws (line.Opened u) h = tt
noted_left {B = B} xs ys zs ws (line.Page w u) h = all_left (λ (note : PageNote B). note.address ≡ u → note.worker ≡ w) xs ys h
noted_left {B = B} xs ys zs ws (line.Rules w o) h = all_left (λ (note : RulesNote). note.origin ≡ o → note.worker ≡ w) zs ws h
noted_left {B = B} xs ys zs ws (line.Answer w u) h = tt
noted_left {B = B} xs ys zs ws (line.Ruled w o) h = tt
noted_left {B = B} xs ys zs ws (line.Spread d u k) h = tt
noted_left {B = B} xs ys zs ws (line.Part d u k) h = tt
noted_left {B = B} xs ys zs ws (line.Abandon w u) h = tt
noted_left {B = B} xs ys zs ws (line.AbandonRules w o) h = tt
noted_left {B = B} xs ys zs ws (line.Stop cause) h = tt

pub noted_right : {B : Type 0} (xs ys : List (PageNote B)) (zs ws : List RulesNote) (event : Event) → IsNotedBy (xs ++ ys) (zs ++ ws) event → IsNotedBy ys ws event
noted_right {B = B} xs ys zs ws (line.Opened u) h = tt
noted_right {B = B} xs ys zs ws (line.Page w u) h = all_right (λ (note : PageNote B). note.address ≡ u → note.worker ≡ w) xs ys h
noted_right {B = B} xs ys zs ws (line.Rules w o) h = all_right (λ (note : RulesNote). note.origin ≡ o → note.worker ≡ w) zs ws h
noted_right {B = B} xs ys zs ws (line.Answer w u) h = tt
noted_right {B = B} xs ys zs ws (line.Ruled w o) h = tt
noted_right {B = B} xs ys zs ws (line.Spread d u k) h = tt
noted_right {B = B} xs ys zs ws (line.Part d u k) h = tt
noted_right {B = B} xs ys zs ws (line.Abandon w u) h = tt
noted_right {B = B} xs ys zs ws (line.AbandonRules w o) h = tt
noted_right {B = B} xs ys zs ws (line.Stop cause) h = tt

-- notes in another order are noted by the same
noted_moved : {B : Type 0} (xs ys : List (PageNote B)) (zs ws : List RulesNote) (event : Event) → IsPermutation xs ys → IsPermutation zs ws → IsNotedBy xs zs event → IsNotedBy ys ws event
noted_moved {B = B} xs ys zs ws (line.Opened u) moved moved' h = tt
noted_moved {B = B} xs ys zs ws (line.Page w u) moved moved' h = All-permutation (λ (note : PageNote B). note.address ≡ u → note.worker ≡ w) xs ys moved h
noted_moved {B = B} xs ys zs ws (line.Rules w o) moved moved' h = All-permutation (λ (note : RulesNote). note.origin ≡ o → note.worker ≡ w) zs ws moved' h
noted_moved {B = B} xs ys zs ws (line.Answer w u) moved moved' h = tt
noted_moved {B = B} xs ys zs ws (line.Ruled w o) moved moved' h = tt
noted_moved {B = B} xs ys zs ws (line.Spread d u k) moved moved' h = tt
noted_moved {B = B} xs ys zs ws (line.Part d u k) moved moved' h = tt
noted_moved {B = B} xs ys zs ws (line.Abandon w u) moved moved' h = tt
noted_moved {B = B} xs ys zs ws (line.AbandonRules w o) moved moved' h = tt
noted_moved {B = B} xs ys zs ws (line.Stop cause) moved moved' h = tt

pub all_moved_by : {B : Type 0} (xs ys : List (PageNote B)) (zs ws : List RulesNote) (trace : List Event) → IsPermutation xs ys → IsPermutation zs ws → AreNotedBy xs zs trace → AreNotedBy ys ws trace
all_moved_by xs ys zs ws trace moved moved' noted = All-weaker (IsNotedBy xs zs) (IsNotedBy ys ws) (λ event h. noted_moved xs ys zs ws event moved moved' h) trace noted

-- if there is no line none says who took anything
pub noted_by_none : {B : Type 0} (notes : List (PageNote B)) (sets : List RulesNote) (trace : List Event) → trace ≡ [] → AreNotedBy notes sets trace
noted_by_none notes sets trace none = subst (λ (lines : List Event). AreNotedBy notes sets lines) (sym none) (All-nil (IsNotedBy notes sets))

-- a worker that is alone took all that was requested of it
only_own : (asks : List Ask) (event : Event) → IfSome (worker_of event) (λ worker. worker ≡ only_worker) → IsOwn 0 asks event
only_own asks (line.Opened u) h = tt
only_own asks (line.Page w u) h = λ among. h
only_own asks (line.Rules w o) h = λ among. h
only_own asks (line.Answer w u) h = tt
only_own asks (line.Ruled w o) h = tt
only_own asks (line.Spread d u k) h = tt
only_own asks (line.Part d u k) h = tt
only_own asks (line.Abandon w u) h = tt
only_own asks (line.AbandonRules w o) h = tt
only_own asks (line.Stop cause) h = tt

module _ {F B : Type 0} (m : Meaning F B) where
  own_nothing : (n : ℕ) (old new : List F) → AreOwn m n old new []
  own_nothing n [] new = tt
  own_nothing n (f ∷ fs) [] = tt
  own_nothing n (f ∷ fs) (g ∷ gs) = (All-nil (IsOwn n (gained (m.log f) (m.log g))), own_nothing (suc n) fs gs)

  -- if there is no line each took what was requested of it
  pub own_none : (old new : List F) (trace : List Event) → trace ≡ [] → AreOwn m 0 old new trace
  own_none old new trace none = subst (λ (lines : List Event). AreOwn m 0 old new lines) (sym none) (own_nothing 0 old new)

  pub alone_own : (fs : List F) (g : F) (trace : List Event) → length fs ≡ 1 → AreByOne trace → AreOwn m 0 fs (slice_set fs 0 g) trace
  alone_own [] g trace one by = absurd (omega arith)
  alone_own (f ∷ []) g trace one by =
      (All-weaker (λ (event : Event). IfSome (worker_of event) (λ worker. worker ≡ only_worker)) (IsOwn 0 (gained (m.log f) (m.log g))) (only_own (gained (m.log f) (m.log g))) trace by, tt)
  alone_own (f ∷ e ∷ fs) g trace one by = absurd (omega arith)
