-- From the notes and the table to what was retrieved, or was until the stop.
use Rattle.std.proofs.Common.{◌≡◌, ◌≢◌, ◌⊎◌, ℕ, inl, inr, true, false, Bool, ◌&&◌, List, [], ◌∷◌, map, zero, suc, Some, None, Option, Result, Ok, Err, refl, sym, ap, ◌∙◌, subst, arith}
use Rattle.std.specs.Prelude.{◌<◌, All, Contains, IsSome, IfSome, IsPermutation, MatchOption, IfOk, IfErr, OnOk, IsOk}
use Rattle.std.specs.List.{filter_map}
use Rattle.std.specs.Option.{is_some}
use Rattle.std.proofs.lemmas.Bool.{false≢true}
use Rattle.std.proofs.lemmas.List.Elements.{All-head, All-tail, All-nil, All-weaker}
use Rattle.std.proofs.lemmas.List.Sorted.{All-permutation, IsPermutation-map, IsPermutation-sym, IsPermutation-trans, Contains-permutation}
use Rattle.follow_filters.specs.Rules.{keeps_of}
use Rattle.follow_filters.specs.declared.plan.Plan.{Plan}
use Rattle.robots_rules.specs.Access.{RuleSetValue}
use Rattle.fetcher.specs.declared.fetcher.Ask.{Ask}
use Rattle.fetcher.specs.declared.outcome.Outcome.{Outcome}
use Rattle.frontier_core.specs.Tables.{Text, IsOnce}
use Rattle.frontier_core.specs.Machine.{State, answers, slot_outcome}
use Rattle.frontier_core.specs.Invariants.{IsGivenUp, AreRulesGivenUp}
use Rattle.frontier_core.proofs.RouteLaws.{contains_tail, contains_cases}
use Rattle.frontier_core.specs.declared.event.Cause.{Cause}
use Rattle.frontier_core.specs.declared.event.Cause.TheVariants as why
use Rattle.frontier_core.specs.declared.event.Event.{Event}
use Rattle.workers.specs.OneWorker.{worker_of, only_worker, AreByOne, AreByCrew}
use Rattle.workers.specs.declared.note.PageNote.{PageNote}
use Rattle.workers.specs.declared.note.RulesNote.{RulesNote}
use Rattle.harvest.specs.declared.page.KeptPage.{KeptPage}
use Rattle.workers.specs.Asks.{pages_asked, origins_asked, AreOnce, AreRecordedOrLost}
use Rattle.workers.specs.inner.Concluded.{HasBody}
use Rattle.workers.specs.inner.Noted.{AreNoted, Agrees, StandsPage, StandsRules, page_of}
use Rattle.workers.specs.inner.Notes.{IsPageOfSite, AreRulesOfSite, addresses, origins}
use Rattle.harvest.specs.Pages.{IsKept, is_success}
use Rattle.harvest.proofs.OrderLaws.{Apart, Apart-from_once, Apart-IsPermutation}

-- ---- the workers that lines name

-- if there is no line none names a worker
pub by_nobody : (workers : ℕ) (trace : List Event) → trace ≡ [] → AreByCrew workers trace
by_nobody workers trace none = subst (λ (lines : List Event). AreByCrew workers lines) (sym none) (All-nil (λ (event : Event). IfSome (worker_of event) (λ worker. worker < workers)))

-- a worker that is alone is the first of one
pub by_one : (trace : List Event) → AreByOne trace → AreByCrew 1 trace
by_one trace = All-weaker (λ (event : Event). IfSome (worker_of event) (λ worker. worker ≡ only_worker)) (λ (event : Event). IfSome (worker_of event) (λ worker. worker < 1)) (λ event. some (worker_of event)) trace
  where
    some : (named : Option ℕ) → IfSome named (λ worker. worker ≡ only_worker) → IfSome named (λ worker. worker < 1)
    some None h = tt
    some (Some worker) h = omega (arith, h)

-- ---- orders of texts that occur once

map_self : (us : List Text) → map (λ (u : Text). u) us ≡ us
map_self [] = refl
map_self (u ∷ us) = ap (λ (x : List Text). u ∷ x) (map_self us)

once_apart : (us : List Text) → Apart (λ (u : Text). u) us → IsOnce us
once_apart [] apart = tt
once_apart (u ∷ us) apart = (
  (λ among. let (k, lt, is) = among in absurd (let e : zero ≡ suc k = apart zero (suc k) u (omega arith) (omega arith) (sym is) in omega arith)),
  once_apart us (λ a b d la lb same. let e : suc a ≡ suc b = apart (suc a) (suc b) d (omega arith) (omega arith) same in omega arith),
)

pub once_permutation : (us vs : List Text) → IsPermutation us vs → IsOnce us → IsOnce vs
once_permutation us vs moved once =
    once_apart vs (Apart-IsPermutation (λ (u : Text). u) us vs moved (Apart-from_once (λ (u : Text). u) us (subst IsOnce (sym (map_self us)) once)))

-- notes that agree with the table do so in whatever order they are
pub agrees_moved : {B : Type 0} (s : State) (pages pages' : List (PageNote B)) (sets sets' : List RulesNote) → IsPermutation pages pages' → IsPermutation sets sets' → Agrees s pages sets → Agrees s pages' sets'
agrees_moved {B = B} s pages pages' sets sets' moved moved_sets agrees =
    let named : IsPermutation (addresses pages) (addresses pages') = IsPermutation-map (λ (note : PageNote B). note.address) _ _ moved in
    let of_origins : IsPermutation (origins sets) (origins sets') = IsPermutation-map (λ (note : RulesNote). note.origin) _ _ moved_sets in
    record {
      once = once_permutation _ _ named agrees.once;
      once_origins = once_permutation _ _ of_origins agrees.once_origins;
      stand = All-permutation (StandsPage s) _ _ moved agrees.stand;
      stand_rules = All-permutation (StandsRules s) _ _ moved_sets agrees.stand_rules;
      recorded = λ u some. Contains-permutation _ _ u named (agrees.recorded u some);
      ruled = λ o some. Contains-permutation _ _ o of_origins (agrees.ruled o some);
    }

-- a note among notes, by its address
pub found_note : {X : Type 0} (key : X → Text) (P : X → Type 0) (xs : List X) (u : Text) → All P xs → Contains (map key xs) u → (x : X) × (key x ≡ u) × P x
found_note key P [] u all (k, lt, is) = absurd (omega arith)
found_note key P (x ∷ xs) u all among = elim (contains_cases (key x) u (map key xs) among) [
  | inl is ↦ (x, is, All-head P x xs all)
  | inr later ↦ found_note key P xs u (All-tail P x xs all) later
]

module _ {B : Type 0} (may_say : Text → Outcome → B → Type 0) (may_rule : Text → RuleSetValue → Type 0) (plan : Plan) where
  pub noted_moved : (asks : List Ask) (notes sorted : List (PageNote B)) (sets sorted_sets : List RulesNote) → AreNoted may_say may_rule plan asks notes sets
      → IsPermutation notes sorted → IsPermutation sets sorted_sets → AreNoted may_say may_rule plan asks sorted sorted_sets
  noted_moved asks notes sorted sets sorted_sets noted moved moved_sets = record {
    pages = IsPermutation-trans _ _ _ noted.pages (IsPermutation-map (λ (note : PageNote B). note.address) notes sorted moved);
    rules = IsPermutation-trans _ _ _ noted.rules (IsPermutation-map (λ (note : RulesNote). note.origin) sets sorted_sets moved_sets);
    told = All-permutation (IsPageOfSite may_say plan) notes sorted moved noted.told;
    ruled = All-permutation (AreRulesOfSite may_rule) sets sorted_sets moved_sets noted.ruled;
  }

  pub once_asked : (asks : List Ask) (notes : List (PageNote B)) (sets : List RulesNote) → AreNoted may_say may_rule plan asks notes sets → IsOnce (addresses notes) → IsOnce (origins sets) → AreOnce asks
  once_asked asks notes sets noted once once_origins = record {
    pages = once_permutation (addresses notes) (pages_asked asks) (IsPermutation-sym _ _ noted.pages) once;
    origins = once_permutation (origins sets) (origins_asked asks) (IsPermutation-sym _ _ noted.rules) once_origins;
  }

  -- an address that was requested has a note, with all that is known of notes
  page_noted : (asks : List Ask) (notes : List (PageNote B)) (sets : List RulesNote) → AreNoted may_say may_rule plan asks notes sets → (P : PageNote B → Type 0) → All P notes
      → (u : Text) → Contains (pages_asked asks) u → (note : PageNote B) × (note.address ≡ u) × P note
  page_noted asks notes sets noted P all u among = found_note (λ (note : PageNote B). note.address) P notes u all (Contains-permutation _ _ u noted.pages among)

  pub rules_noted : (asks : List Ask) (notes : List (PageNote B)) (sets : List RulesNote) → AreNoted may_say may_rule plan asks notes sets → (P : RulesNote → Type 0) → All P sets
      → (o : Text) → Contains (origins_asked asks) o → (note : RulesNote) × (note.origin ≡ o) × P note
  rules_noted asks notes sets noted P all o among = found_note (λ (note : RulesNote). note.origin) P sets o all (Contains-permutation _ _ o noted.rules among)

  -- what is in the table is recorded or was given up
  stands_as : (s : State) (u : Text) (told : Option Outcome) → MatchOption told (IsGivenUp s u) (λ x. (answers s).outcome u ≡ Some x) → IsSome ((answers s).outcome u) ⊎ IsGivenUp s u
  stands_as s u None lost = inr lost
  stands_as s u (Some x) recorded = inl (ap is_some recorded)

  rules_stand_as : (s : State) (o : Text) (told : Option RuleSetValue) → MatchOption told (AreRulesGivenUp s o) (λ r. (answers s).rules o ≡ Some r) → IsSome ((answers s).rules o) ⊎ AreRulesGivenUp s o
  rules_stand_as s o None lost = inr lost
  rules_stand_as s o (Some x) recorded = inl (ap is_some recorded)

  pub recorded_or_lost : (asks : List Ask) (notes : List (PageNote B)) (sets : List RulesNote) (s : State) → AreNoted may_say may_rule plan asks notes sets → Agrees s notes sets → AreRecordedOrLost asks s
  recorded_or_lost asks notes sets s noted agrees = record {
    recorded = λ u some. Contains-permutation _ _ u (IsPermutation-sym _ _ noted.pages) (agrees.recorded u some);
    pages = λ u among. (let (note, is, stands) = page_noted asks notes sets noted (StandsPage s) agrees.stand u among in
        subst (λ (w : Text). IsSome ((answers s).outcome w) ⊎ IsGivenUp s w) is (stands_as s note.address note.outcome stands));
    ruled = λ o some. Contains-permutation _ _ o (IsPermutation-sym _ _ noted.rules) (agrees.ruled o some);
    origins = λ o among. (let (note, is, stands) = rules_noted asks notes sets noted (StandsRules s) agrees.stand_rules o among in
        subst (λ (w : Text). IsSome ((answers s).rules w) ⊎ AreRulesGivenUp s w) is (rules_stand_as s note.origin note.rules stands));
  }

-- ---- the pages that are kept

-- a kept page is that of a note with a body
kept_among : {B : Type 0} (P : PageNote B → Type 0) (notes : List (PageNote B)) (u : Text) → All P notes → Contains (map (λ (page : KeptPage B). page.address) (filter_map page_of notes)) u
    → (note : PageNote B) × (note.address ≡ u) × P note × (is_some note.body ≡ true)
kept_among {B = B} P [] u all (k, lt, is) = absurd (omega arith)
kept_among {B = B} P (note ∷ notes) u all among = go (λ later. kept_among P notes u (All-tail P note notes all) later) note.body refl among
  where
    go : (Contains (map (λ (page : KeptPage B). page.address) (filter_map page_of notes)) u → (note : PageNote B) × (note.address ≡ u) × P note × (is_some note.body ≡ true)) → (o : Option B) → note.body ≡ o → Contains (map (λ (page : KeptPage B). page.address) (filter_map page_of (note ∷ notes))) u
        → (note : PageNote B) × (note.address ≡ u) × P note × (is_some note.body ≡ true)
    go rest None is here = rest (rw is at here)
    go rest (Some body) is here = elim (contains_cases note.address u (map (λ (page : KeptPage B). page.address) (filter_map page_of notes)) (rw is at here)) [
      | inl first ↦ (note, first, All-head P note notes all, ap is_some is)
      | inr later ↦ rest later
    ]

-- an address that was noted with a body is that of a kept page
among_kept : {B : Type 0} (P : PageNote B → Type 0) (notes : List (PageNote B)) (u : Text) → All P notes → ((note : PageNote B) → P note → note.address ≡ u → is_some note.body ≡ true)
    → Contains (addresses notes) u → Contains (map (λ (page : KeptPage B). page.address) (filter_map page_of notes)) u
among_kept {B = B} P [] u all has (k, lt, is) = absurd (omega arith)
among_kept {B = B} P (note ∷ notes) u all has among = go (λ later. among_kept P notes u (All-tail P note notes all) has later) note.body refl (contains_cases note.address u (addresses notes) among)
  where
    go : (Contains (addresses notes) u → Contains (map (λ (page : KeptPage B). page.address) (filter_map page_of notes)) u) → (o : Option B) → note.body ≡ o → (note.address ≡ u) ⊎ Contains (addresses notes) u → Contains (map (λ (page : KeptPage B). page.address) (filter_map page_of (note ∷ notes))) u
    go rest None is (inl first) = absurd (false≢true (sym (ap is_some is) ∙ has note (All-head P note notes all) first))
    go rest None is (inr later) = rw is (rest later)
    go rest (Some body) is (inl first) = rw is (zero, omega arith, first)
    go rest (Some body) is (inr later) = rw is (contains_tail note.address u (map (λ (page : KeptPage B). page.address) (filter_map page_of notes)) (rest later))

-- what is kept was noted
kept_is_noted : {B : Type 0} (notes : List (PageNote B)) (u : Text) → Contains (map (λ (page : KeptPage B). page.address) (filter_map page_of notes)) u → Contains (addresses notes) u
kept_is_noted {B = B} [] u among = among
kept_is_noted {B = B} (note ∷ notes) u among = go (λ later. kept_is_noted notes u later) note.body refl among
  where
    go : (Contains (map (λ (page : KeptPage B). page.address) (filter_map page_of notes)) u → Contains (addresses notes) u) → (o : Option B) → note.body ≡ o → Contains (map (λ (page : KeptPage B). page.address) (filter_map page_of (note ∷ notes))) u → Contains (addresses (note ∷ notes)) u
    go rest None is here = contains_tail note.address u (addresses notes) (rest (rw is at here))
    go rest (Some body) is here = elim (contains_cases note.address u (map (λ (page : KeptPage B). page.address) (filter_map page_of notes)) (rw is at here)) [
      | inl first ↦ (zero, omega arith, first)
      | inr later ↦ contains_tail note.address u (addresses notes) (rest later)
    ]

pub kept_once : {B : Type 0} (notes : List (PageNote B)) → IsOnce (addresses notes) → IsOnce (map (λ (page : KeptPage B). page.address) (filter_map page_of notes))
kept_once {B = B} [] once = tt
kept_once {B = B} (note ∷ notes) once = go (kept_once notes once.1) note.body refl
  where
    go : IsOnce (map (λ (page : KeptPage B). page.address) (filter_map page_of notes)) → (o : Option B) → note.body ≡ o → IsOnce (map (λ (page : KeptPage B). page.address) (filter_map page_of (note ∷ notes)))
    go rest None is = rw is rest
    go rest (Some body) is = rw is ((λ among. once.0 (kept_is_noted notes note.address among)), rest)

both_true : (a b : Bool) → (a && b) ≡ true → (a ≡ true) × (b ≡ true)
both_true true b h = (refl, h)
both_true false b h = cc

-- the pages of notes with a body are those that are kept of the record
pub kept_is : {B : Type 0} (plan : Plan) (s : State) (notes : List (PageNote B)) (sets : List RulesNote) → Agrees s notes sets → All (HasBody plan) notes → (u : Text)
    → (Contains (map (λ (page : KeptPage B). page.address) (filter_map page_of notes)) u → IsKept plan (answers s) u) × (IsKept plan (answers s) u → Contains (map (λ (page : KeptPage B). page.address) (filter_map page_of notes)) u)
kept_is {B = B} plan s notes sets agrees bodies u = (
  (λ among. let (note, is, (has, stands), some) = kept_among (λ (note : PageNote B). HasBody plan note × StandsPage s note) notes u all among in subst (λ (w : Text). IsKept plan (answers s) w) is (shown note note.outcome has stands some)),
  (λ kept. let (x, found, success, keeps) = kept in
      among_kept (λ (note : PageNote B). HasBody plan note × StandsPage s note) notes u all (λ note both is. holds note note.outcome both.0 both.1 x (ap (λ (w : Text). (answers s).outcome w) is ∙ found) success (ap (keeps_of plan) is ∙ keeps)) (agrees.recorded u (ap is_some found))),
)
  where
    all : All (λ (note : PageNote B). HasBody plan note × StandsPage s note) notes
    all k d lt = (bodies k d lt, agrees.stand k d lt)

    shown : (note : PageNote B) (told : Option Outcome) → MatchOption told (note.body ≡ None) (λ x. is_some note.body ≡ (keeps_of plan note.address && is_success x))
        → MatchOption told (IsGivenUp s note.address) (λ x. (answers s).outcome note.address ≡ Some x) → is_some note.body ≡ true → IsKept plan (answers s) note.address
    shown note None has stands some = absurd (false≢true (sym (ap is_some has) ∙ some))
    shown note (Some x) has stands some = (let both = both_true _ _ (sym has ∙ some) in (x, stands, both.1, both.0))

    holds : (note : PageNote B) (told : Option Outcome) → MatchOption told (note.body ≡ None) (λ x. is_some note.body ≡ (keeps_of plan note.address && is_success x))
        → MatchOption told (IsGivenUp s note.address) (λ x. (answers s).outcome note.address ≡ Some x) → (x : Outcome) → (answers s).outcome note.address ≡ Some x
        → is_success x ≡ true → keeps_of plan note.address ≡ true → is_some note.body ≡ true
    holds note None has (d, lost) x found success keeps = (let none : (answers s).outcome note.address ≡ None = ap slot_outcome lost in cc)
    holds note (Some y) has stands x found success keeps = (let same : y ≡ x = cc in has ∙ rw (keeps, same, success) refl)

-- ---- by how it was left

-- what stopped for one cause didn't stop for another
pub not_full : (cause : Cause) → cause ≡ why.Mismatch → cause ≢ why.Full
not_full cause is full = (let other : why.Mismatch ≡ why.Full = sym is ∙ full in cc)

pub if_ok : {X E : Type 0} (r : Result X E) (A B : X → Type 0) → ((x : X) → A x → B x) → IfOk r A → IfOk r B
if_ok (Ok x) A B f h = f x h
if_ok (Err e) A B f h = tt

pub if_err : {X E : Type 0} (r : Result X E) (A B : E → Type 0) → ((e : E) → A e → B e) → IfErr r A → IfErr r B
if_err (Ok x) A B f h = tt
if_err (Err e) A B f h = f e h

pub on_ok : {X E : Type 0} (r : Result X E) (Q : Type 0) → OnOk r Q → IsOk r → Q
on_ok (Ok x) Q h ok = h
on_ok (Err e) Q h ok = absurd (false≢true ok)

pub on_err : {X E : Type 0} (r : Result X E) (e : E) (A : E → Type 0) → r ≡ Err e → IfErr r A → A e
on_err {E = E} r e A is h = subst (λ z. IfErr z A) is h
