-- What was retrieved is what was found, by the answers that were recorded alone.
use Rattle.std.proofs.Common.{◌≡◌, ◌≢◌, ℕ, inl, inr, List, [], ◌∷◌, Some, get_or, map, zero, suc, refl, sym, ap, ◌∙◌, subst, arith}
use Rattle.std.specs.Prelude.{Contains, All, Any}
use Rattle.std.proofs.lemmas.List.{length-map, get_or-map}
use Rattle.std.proofs.lemmas.List.Elements.{Contains-get_or}
use Rattle.std.proofs.lemmas.List.Kept.{AllPairs-cons}
use Rattle.std.proofs.lemmas.List.Sorted.{Contains-permutation, IsPermutation-sym}
use Rattle.follow_filters.specs.declared.plan.Plan.{Plan}
use Rattle.robots_rules.specs.Access.{RuleSetValue}
use Rattle.fetcher.specs.declared.fetcher.Ask.{Ask}
use Rattle.fetcher.specs.declared.fetcher.Ask.TheVariants as ask
use Rattle.fetcher.specs.declared.outcome.Outcome.{Outcome}
use Rattle.frontier_core.specs.Tables.{Text, lookup, keys, IsOnce}
use Rattle.frontier_core.specs.Routes.{Answers, IsDepth}
use Rattle.frontier_core.specs.Machine.{State, Slot, answers}
use Rattle.frontier_core.specs.Readers.{entry_of}
use Rattle.frontier_core.specs.Plans.{policy}
use Rattle.frontier_core.specs.Invariants.{IsComplete}
use Rattle.frontier_core.specs.declared.event.Cause.{Cause}
use Rattle.frontier_core.proofs.RouteLaws.{contains_tail, contains_cases}
use Rattle.frontier_core.proofs.Runs.{sound_replay}
use Rattle.harvest.specs.Entries.{Seen, seen_of, seen_in, said_by}
use Rattle.harvest.specs.Gathered.{AreEntries}
use Rattle.harvest.specs.Harvests.{Harvested}
use Rattle.harvest.specs.declared.entry.HarvestEntry.{HarvestEntry}
use Rattle.workers.specs.Asks.{pages_asked, origins_asked, AreOnce, AreRecorded, IsOfSite}
use Rattle.workers.specs.Found.{AreMadeOnce, AreAsked, AreFound}
use Rattle.workers.specs.Retrieval.{IsRetrieved, IsStopped}
use Rattle.workers.proofs.SiteLaws.{some_of}
use Rattle.workers.proofs.TableLemmas.{found_entry, found_stands}

-- ---- asks

pub page_in : (asks : List Ask) (u : Text) → Contains (pages_asked asks) u → Contains asks (ask.Page u)
page_in [] u (k, lt, e) = absurd (omega arith)
page_in (ask.Page v ∷ asks) u (zero, lt, e) = (zero, omega arith, ap (λ (w : Text). ask.Page w) e)
page_in (ask.Page v ∷ asks) u (suc k, lt, e) = contains_tail (ask.Page v) (ask.Page u) asks (page_in asks u (k, omega arith, e))
page_in (ask.Rules o ∷ asks) u among = contains_tail (ask.Rules o) (ask.Page u) asks (page_in asks u among)

pub page_among : (asks : List Ask) (u : Text) → Contains asks (ask.Page u) → Contains (pages_asked asks) u
page_among [] u (k, lt, e) = absurd (omega arith)
page_among (ask.Page v ∷ asks) u (zero, lt, e) = (zero, omega arith, (let is : v ≡ u = cc in is))
page_among (ask.Page v ∷ asks) u (suc k, lt, e) = contains_tail v u (pages_asked asks) (page_among asks u (k, omega arith, e))
page_among (ask.Rules o ∷ asks) u (zero, lt, e) = cc
page_among (ask.Rules o ∷ asks) u (suc k, lt, e) = page_among asks u (k, omega arith, e)

pub rules_in : (asks : List Ask) (o : Text) → Contains (origins_asked asks) o → Contains asks (ask.Rules o)
rules_in [] o (k, lt, e) = absurd (omega arith)
rules_in (ask.Rules v ∷ asks) o (zero, lt, e) = (zero, omega arith, ap (λ (w : Text). ask.Rules w) e)
rules_in (ask.Rules v ∷ asks) o (suc k, lt, e) = contains_tail (ask.Rules v) (ask.Rules o) asks (rules_in asks o (k, omega arith, e))
rules_in (ask.Page u ∷ asks) o among = contains_tail (ask.Page u) (ask.Rules o) asks (rules_in asks o among)

pub rules_among : (asks : List Ask) (o : Text) → Contains asks (ask.Rules o) → Contains (origins_asked asks) o
rules_among [] o (k, lt, e) = absurd (omega arith)
rules_among (ask.Rules v ∷ asks) o (zero, lt, e) = (zero, omega arith, (let is : v ≡ o = cc in is))
rules_among (ask.Rules v ∷ asks) o (suc k, lt, e) = contains_tail v o (origins_asked asks) (rules_among asks o (k, omega arith, e))
rules_among (ask.Page u ∷ asks) o (zero, lt, e) = cc
rules_among (ask.Page u ∷ asks) o (suc k, lt, e) = rules_among asks o (k, omega arith, e)

-- an ask that isn't among others is none of them
apart : (one : Ask) (asks : List Ask) → (Contains asks one → ⊥) → All (λ other. one ≢ other) asks
apart one asks fresh k d lt = λ same. fresh (subst (λ (a : Ask). Contains asks a) (sym same) (Contains-get_or asks k d lt))

pub made_once : (asks : List Ask) → AreOnce asks → AreMadeOnce asks
made_once [] once = λ i j d lt within. absurd (omega arith)
made_once (ask.Page u ∷ asks) once =
    AllPairs-cons (λ (one other : Ask). one ≢ other) (ask.Page u) asks (apart (ask.Page u) asks (λ among. once.pages.0 (page_among asks u among)))
    (made_once asks (record { pages = once.pages.1; origins = once.origins }))
made_once (ask.Rules o ∷ asks) once =
    AllPairs-cons (λ (one other : Ask). one ≢ other) (ask.Rules o) asks (apart (ask.Rules o) asks (λ among. once.origins.0 (rules_among asks o among)))
    (made_once asks (record { pages = once.pages; origins = once.origins.1 }))

-- what was requested is exactly what is wanted
pub are_asked : {B : Type 0} (may_say : Text → Outcome → B → Type 0) (may_rule : Text → RuleSetValue → Type 0) (plan : Plan) (asks : List Ask) (s : State)
    → AreOnce asks → AreRecorded asks (answers s) → IsComplete (policy plan) s → IsOfSite may_say may_rule (answers s) → AreAsked may_say may_rule plan asks (answers s)
are_asked may_say may_rule plan asks s once recorded complete told = record {
  once = made_once asks once;
  wanted = λ u. (
    (λ among. (complete.wanted u).0 ((recorded.pages u).0 (page_among asks u among))),
    (λ wanted. page_in asks u ((recorded.pages u).1 ((complete.wanted u).1 wanted))),
  );
  needed = λ o. (
    (λ among. (complete.needed o).0 ((recorded.origins o).0 (rules_among asks o among))),
    (λ needed. rules_in asks o ((recorded.origins o).1 ((complete.needed o).1 needed))),
  );
  outcomes = λ u. ((λ among. (recorded.pages u).0 (page_among asks u among)), (λ some. page_in asks u ((recorded.pages u).1 some)));
  rules = λ o. ((λ among. (recorded.origins o).0 (rules_among asks o among)), (λ some. rules_in asks o ((recorded.origins o).1 some)));
  told = told;
}

-- ---- entries

to_map : {X Y : Type 0} (f : X → Y) (xs : List X) (x : X) → Contains xs x → Contains (map f xs) (f x)
to_map f xs x (k, lt, e) = (k, omega (arith, length-map xs f), get_or-map f xs k x (f x) (omega arith) ∙ ap f e)

from_map : {X Y : Type 0} (f : X → Y) (xs : List X) (y : Y) → Contains (map f xs) y → (x : X) × Contains xs x × (f x ≡ y)
from_map f [] y (k, lt, e) = absurd (omega arith)
from_map f (x ∷ xs) y among =
    elim (contains_cases (f x) y (map f xs) among) [
      | inl is ↦ (x, (zero, omega arith, refl), is)
      | inr more ↦ (let (z, there, is) = from_map f xs y more in (z, contains_tail x z xs there, is))
    ]

-- an entry has the depth that the state holds of its address
entry_depth : {B : Type 0} (plan : Plan) (h : Harvested B) → AreEntries h → IsOnce (keys h.state.entries) → IsComplete (policy plan) h.state → (e : HarvestEntry) → Contains h.entries e
    → IsDepth (policy plan) (answers h.state) e.address e.depth
entry_depth plan h are once complete e among =
    let there = Contains-permutation (map said_by h.entries) (seen_in h.state) (said_by e) (IsPermutation-sym _ _ are.same) (to_map said_by h.entries e among) in
    let (t, stands, is) = from_map (λ (entry : Text × Slot). seen_of (entry_of entry)) h.state.entries (said_by e) there in
    let (k, lt, at) = stands in
    let found : lookup h.state.entries t.0 ≡ Some t.1 = subst (λ (z : Text × Slot). lookup h.state.entries z.0 ≡ Some z.1) at (found_entry h.state.entries once k t lt) in
    subst (λ (u : Text). IsDepth (policy plan) (answers h.state) u e.depth) (ap (λ (z : Seen). z.0) is)
    (subst (λ (n : ℕ). IsDepth (policy plan) (answers h.state) t.0 n) (ap (λ (z : Seen). z.1) is) (complete.depths t.0 t.1 found))

-- what the state holds has an entry
has_entry : {B : Type 0} (h : Harvested B) → AreEntries h → (u : Text) (slot : Slot) → lookup h.state.entries u ≡ Some slot → Any (λ entry. entry.address ≡ u) h.entries
has_entry h are u slot found =
    let seen = Contains-permutation (seen_in h.state) (map said_by h.entries) (seen_of (entry_of (u, slot))) are.same
    (to_map (λ (entry : Text × Slot). seen_of (entry_of entry)) h.state.entries (u, slot) (found_stands h.state.entries u slot found)) in
    let (e, there, is) = from_map said_by h.entries (seen_of (entry_of (u, slot))) seen in
    let (k, lt, at) = there in
    (k, e, lt, at, ap (λ (z : Seen). z.0) is)

pub are_found : {B : Type 0} (plan : Plan) (h : Harvested B) → AreEntries h → IsOnce (keys h.state.entries) → IsComplete (policy plan) h.state → AreFound plan (answers h.state) h.entries
are_found plan h are once complete = record {
  each = λ k d lt. entry_depth plan h are once complete (get_or h.entries k d) (Contains-get_or h.entries k d lt);
  all = λ u candidate. (let (slot, found) = some_of (lookup h.state.entries u) ((complete.candidates u).1 candidate) in has_entry h are u slot found);
}

-- ---- what was retrieved, or was until the stop

pub retrieved_found : {B : Type 0} (may_say : Text → Outcome → B → Type 0) (may_rule : Text → RuleSetValue → Type 0) (plan : Plan) (asks : List Ask) (h : Harvested B) → AreEntries h
    → IsRetrieved may_say may_rule plan asks h → (m : Answers) × AreAsked may_say may_rule plan asks m × AreFound plan m h.entries
retrieved_found may_say may_rule plan asks h are retrieved = (
  answers h.state,
  are_asked may_say may_rule plan asks h.state retrieved.once retrieved.recorded retrieved.complete retrieved.told,
  are_found plan h are (sound_replay (policy plan) h.trace h.state plan.starts_in_range retrieved.replay).addresses retrieved.complete,
)

pub stopped_once : {B : Type 0} (may_say : Text → Outcome → B → Type 0) (may_rule : Text → RuleSetValue → Type 0) (plan : Plan) (asks : List Ask) (cause : Cause) (h : Harvested B)
    → IsStopped may_say may_rule plan asks cause h → AreMadeOnce asks
stopped_once may_say may_rule plan asks cause h (inl part) = made_once asks part.once
stopped_once may_say may_rule plan asks cause h (inr empty) = made_once asks empty.once
