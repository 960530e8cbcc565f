-- What several fetchers retrieve, or did until they stopped, from what was noted and concluded.
use Rattle.std.proofs.Common.{◌≡◌, ◌≢◌, ◌⊎◌, ℕ, inl, inr, List, [], ◌∷◌, ◌++◌, length, get_or, slice_set, take, arith, Some, Result, Ok, Err, refl, sym, ap, ◌∙◌, subst}
use Rattle.std.specs.Prelude.{Contains, IfOk, IfErr, IsOk, IsErr}
use Rattle.std.specs.List.{AllZip}
use Rattle.std.proofs.lemmas.Bool.{false≢true}
use Rattle.std.proofs.lemmas.List.{append-nil, take-append-le, take_all}
use Rattle.follow_filters.specs.declared.plan.Plan.{Plan}
use Rattle.robots_rules.specs.Access.{RuleSetValue}
use Rattle.fetcher.specs.declared.fetcher.Ask.{Ask}
use Rattle.fetcher.specs.declared.fetcher.Fetcher.{Ghosts as Meaning}
use Rattle.fetcher.specs.declared.outcome.Outcome.{Outcome}
use Rattle.frontier_core.specs.Tables.{Text, IsOnce}
use Rattle.frontier_core.specs.Plans.{policy}
use Rattle.frontier_core.specs.Machine.{State, answers, IsQuiet}
use Rattle.frontier_core.specs.Invariants.{IsComplete, IsOverfull}
use Rattle.frontier_core.specs.Routes.{Answers, HasTooMany}
use Rattle.frontier_core.specs.Traced.{Traced}
use Rattle.frontier_core.specs.declared.event.Cause.{Cause}
use Rattle.frontier_core.specs.declared.event.Cause.TheVariants as why
use Rattle.frontier_core.specs.declared.event.Event.{Event}
use Rattle.frontier_core.proofs.Runs.{sound_replay}
use Rattle.workers.specs.declared.note.PageNote.{PageNote}
use Rattle.workers.specs.declared.note.RulesNote.{RulesNote}
use Rattle.workers.specs.declared.retrieval.Halt.{Halt}
use Rattle.workers.specs.declared.worker.Seat.{Seat}
use Rattle.workers.specs.declared.crew_retrieval.Retrieved.{Retrieved}
use Rattle.workers.specs.declared.crew_retrieval.Stopped.{Stopped}
use Rattle.workers.specs.inner.Answered.{IsRetrievedBy, IsStoppedBy, IsAccount, IsOwnAccount}
use Rattle.workers.specs.declared.crew_retrieval.KnownNotes.{KnownNotes}
use Rattle.workers.specs.declared.crew_retrieval.KnownNotes.TheVariants as known
use Rattle.workers.specs.declared.note.Notes.{Notes}
use Rattle.workers.specs.inner.Apart.{IsOrdered}
use Rattle.workers.specs.Asks.{gained, pages_asked, origins_asked, AreOnce}
use Rattle.workers.specs.inner.Concluded.{IsConcluded, IsBare}
use Rattle.workers.specs.Crews.{AreLater, all_gained, SomeSays, SomeRules, AllFit}
use Rattle.harvest.specs.Gathered.{AreEntries}
use Rattle.harvest.specs.Harvests.{Harvested}
use Rattle.workers.specs.Found.{AreMadeOnce, AreAsked, AreFound}
use Rattle.workers.specs.inner.Noted.{AreNoted}
use Rattle.workers.specs.inner.Notes.{addresses, origins}
use Rattle.workers.specs.Retrieval.{IsRetrieved, IsPartRetrieved, IsStopped}
use Rattle.workers.specs.inner.Seats.{AllGo, fetchers_of, page_notes, rules_notes}
use Rattle.workers.specs.Sites.{IsCompleteFor}
use Rattle.workers.specs.Takers.{AreOwn}
use Rattle.workers.specs.inner.Takers.{AreNotedBy}
use Rattle.workers.specs.inner.Turns.{IsNothing}
use Rattle.workers.proofs.ApartLaws.{same_fetchers}
use Rattle.workers.proofs.CrewLaws.{crew_later, pages_are_noted, rules_are_noted}
use Rattle.workers.proofs.FoundLaws.{page_in, rules_in, retrieved_found, stopped_once}
use Rattle.workers.proofs.RetrievalLaws.{gained_is, log_is}
use Rattle.workers.proofs.ServingLaws.{crew_retrieved, crew_part_retrieved, crew_bare, crew_fits, retrieved_more, part_retrieved_more}
use Rattle.workers.proofs.SiteLaws.{fits_extend, complete_for, too_many_up, not_too_many}

-- more candidates than the plan lets be held, and a full table that shows it
abbrev pub IsFull : Plan → State → Type 0
IsFull plan s = HasTooMany (policy plan) (answers s) × IsOverfull (policy plan) s

-- what a vector holds whose elements were all written
pub written : {X : Type 0} (n : ℕ) (new rest : List X) → length new ≡ n → take n (new ++ rest) ≡ new
written n new rest is = take-append-le n new rest (omega arith) ∙ take_all n new (omega arith)

module _ {F B : Type 0} (m : Meaning F B) (plan : Plan) where
  -- ---- fetchers of which nothing was requested

  same_gained : (asks : List Ask) → gained asks asks ≡ []
  same_gained asks = gained_is asks asks [] (sym (append-nil asks))

  pub later_self : (fs : List F) → AreLater m fs fs
  later_self [] = tt
  later_self (f ∷ fs) = (record { site_is = refl; log_is = log_is (m.log f) (m.log f) [] (sym (append-nil (m.log f))) }, later_self fs)

  pub none_gained : (fs : List F) → all_gained m fs fs ≡ []
  none_gained [] = refl
  none_gained (f ∷ fs) = ap (λ (asks : List Ask). asks ++ all_gained m fs fs) (same_gained (m.log f)) ∙ none_gained fs

  pub none_once : (fs : List F) → AreOnce (all_gained m fs fs)
  none_once fs = subst AreOnce (sym (none_gained fs)) (record { pages = tt; origins = tt })

  -- ---- by what was concluded

  pub retrieved_by : (old new : List F) (t : Traced) (notes : List (PageNote B)) (sets : List RulesNote) (h : Harvested B) → AreLater m old new
      → AreNoted (SomeSays m old new) (SomeRules m old new) plan (all_gained m old new) notes sets
      → IsConcluded plan t notes sets h × IsQuiet t.state × IsComplete (policy t.plan) t.state → IsRetrievedBy m plan old new h
  retrieved_by old new t notes sets h later noted all = record {
    later = later;
    retrieved = crew_retrieved (SomeSays m old new) (SomeRules m old new) plan t (all_gained m old new) notes sets h noted all.0 all.1 all.2;
    entries = all.0.harvest.entries;
  }

  full_of : (t : Traced) (notes : List (PageNote B)) (sets : List RulesNote) (h : Harvested B) → IsConcluded plan t notes sets h → IsFull t.plan t.state → IsFull plan h.state
  full_of t notes sets h all full = subst (λ (s : State). IsFull plan s) (sym all.harvest.state) (subst (λ (x : Plan). IsFull x t.state) all.follows full)

  pub stopped_by : (old new : List F) (t : Traced) (notes : List (PageNote B)) (sets : List RulesNote) (cause : Cause) (h : Harvested B) → AreLater m old new
      → AreNoted (SomeSays m old new) (SomeRules m old new) plan (all_gained m old new) notes sets
      → (cause ≢ why.Mismatch → IsBare notes sets cause h ⊎ (IsConcluded plan t notes sets h × (t.state.cause ≡ Some cause)))
      → (cause ≡ why.Full → IsFull t.plan t.state) → IsStoppedBy m plan old new cause h
  stopped_by old new t notes sets cause h later noted err full = record {
    later = later;
    stopped = λ other. elim (err other) [
      | inl bare ↦ crew_bare (SomeSays m old new) (SomeRules m old new) plan (all_gained m old new) notes sets cause h noted bare
      | inr both ↦ inl (crew_part_retrieved (SomeSays m old new) (SomeRules m old new) plan t (all_gained m old new) notes sets cause h noted both.0 both.1)
    ];
    full = λ is. elim (err (λ (wrong : cause ≡ why.Mismatch). let other : why.Mismatch ≡ why.Full = sym wrong ∙ is in cc)) [
      | inl bare ↦ absurd (let other : why.Memory ≡ why.Full = sym bare.nothing.memory ∙ is in cc)
      | inr both ↦ full_of t notes sets h both.0 (full is)
    ];
  }

  pub stopped_empty : (old new : List F) (cause : Cause) (h : Harvested B) → AreLater m old new → AreOnce (all_gained m old new) → IsNothing cause h → IsStoppedBy m plan old new cause h
  stopped_empty old new cause h later once nothing = record {
    later = later;
    stopped = λ other. inr (record { memory = nothing.memory; plan = nothing.plan; state = nothing.state; trace = nothing.trace; once = once });
    full = λ is. absurd (let other : why.Memory ≡ why.Full = sym nothing.memory ∙ is in cc);
  }

  pub stopped_wrong : (old new : List F) (cause : Cause) (h : Harvested B) → AreLater m old new → cause ≡ why.Mismatch → IsStoppedBy m plan old new cause h
  stopped_wrong old new cause h later wrong = record {
    later = later;
    stopped = λ other. absurd (other wrong);
    full = λ is. absurd (let other : why.Mismatch ≡ why.Full = sym wrong ∙ is in cc);
  }

  -- ---- by what was noted

  pub account_all : (old new : List F) (noted : KnownNotes B) (notes : Notes B) → IsAccount m plan old new noted → noted ≡ known.All notes
      → AreNoted (SomeSays m old new) (SomeRules m old new) plan (all_gained m old new) notes.pages.items notes.rules.items
  account_all old new noted notes account is = subst (λ (n : KnownNotes B). IsAccount m plan old new n) is account

  pub account_once : (old new : List F) (noted : KnownNotes B) → IsAccount m plan old new noted → noted ≡ known.Once → AreOnce (all_gained m old new)
  account_once old new noted account is = subst (λ (n : KnownNotes B). IsAccount m plan old new n) is account

  pub all_retrieved : (old new : List F) (t : Traced) (notes : List (PageNote B)) (sets : List RulesNote) (concluded : Result (Harvested B) (Halt B)) → AreLater m old new
      → AreNoted (SomeSays m old new) (SomeRules m old new) plan (all_gained m old new) notes sets
      → IfOk concluded (λ h. IsConcluded plan t notes sets h × IsQuiet t.state × IsComplete (policy t.plan) t.state) → IfOk concluded (λ h. IsRetrievedBy m plan old new h)
  all_retrieved old new t notes sets (Ok h) later noted ok = retrieved_by old new t notes sets h later noted ok
  all_retrieved old new t notes sets (Err halt) later noted ok = tt

  pub all_stopped : (old new : List F) (t : Traced) (notes : List (PageNote B)) (sets : List RulesNote) (concluded : Result (Harvested B) (Halt B)) → AreLater m old new
      → AreNoted (SomeSays m old new) (SomeRules m old new) plan (all_gained m old new) notes sets
      → IfErr concluded (λ halt. halt.cause ≢ why.Mismatch → IsBare notes sets halt.cause halt.harvest ⊎ (IsConcluded plan t notes sets halt.harvest × (t.state.cause ≡ Some halt.cause)))
      → IfErr concluded (λ halt. halt.cause ≡ why.Full → IsFull t.plan t.state) → IfErr concluded (λ halt. IsStoppedBy m plan old new halt.cause halt.harvest)
  all_stopped old new t notes sets (Ok h) later noted err full = tt
  all_stopped old new t notes sets (Err halt) later noted err full = stopped_by old new t notes sets halt.cause halt.harvest later noted err full

  -- ---- one fetcher

  pub one_later : (f g : F) → m.site g ≡ m.site f → m.log g ≡ m.log f ++ gained (m.log f) (m.log g) → AreLater m (f ∷ []) (g ∷ [])
  one_later f g site_is log_is = (record { site_is = site_is; log_is = log_is }, tt)

  one_gained : (f g : F) → all_gained m (f ∷ []) (g ∷ []) ≡ gained (m.log f) (m.log g)
  one_gained f g = append-nil (gained (m.log f) (m.log g))

  one_says : (f g : F) (u : Text) (x : Outcome) (body : B) → Contains (pages_asked (gained (m.log f) (m.log g))) u → m.says (m.site f) u x body → SomeSays m (f ∷ []) (g ∷ []) u x body
  one_says f g u x body among said = inl (page_in (gained (m.log f) (m.log g)) u among, said)

  one_rules : (f g : F) (o : Text) (r : RuleSetValue) → Contains (origins_asked (gained (m.log f) (m.log g))) o → m.rules (m.site f) o r → SomeRules m (f ∷ []) (g ∷ []) o r
  one_rules f g o r among said = inl (rules_in (gained (m.log f) (m.log g)) o among, said)

  pub one_retrieved : (f g : F) (h : Harvested B) → m.site g ≡ m.site f → m.log g ≡ m.log f ++ gained (m.log f) (m.log g)
      → IsRetrieved (m.says (m.site f)) (m.rules (m.site f)) plan (gained (m.log f) (m.log g)) h → AreEntries h → IsRetrievedBy m plan (f ∷ []) (g ∷ []) h
  one_retrieved f g h site_is log_is retrieved entries = record {
    later = one_later f g site_is log_is;
    retrieved = subst (λ (asks : List Ask). IsRetrieved (SomeSays m (f ∷ []) (g ∷ [])) (SomeRules m (f ∷ []) (g ∷ [])) plan asks h) (sym (one_gained f g))
        (retrieved_more (m.says (m.site f)) (SomeSays m (f ∷ []) (g ∷ [])) (m.rules (m.site f)) (SomeRules m (f ∷ []) (g ∷ [])) (gained (m.log f) (m.log g)) (one_says f g) (one_rules f g) plan h retrieved);
    entries = entries;
  }

  pub one_stopped : (f g : F) (cause : Cause) (h : Harvested B) → m.site g ≡ m.site f → m.log g ≡ m.log f ++ gained (m.log f) (m.log g)
      → IsStopped (m.says (m.site f)) (m.rules (m.site f)) plan (gained (m.log f) (m.log g)) cause h → (cause ≡ why.Full → IsFull plan h.state) → IsStoppedBy m plan (f ∷ []) (g ∷ []) cause h
  one_stopped f g cause h site_is log_is some full = record {
    later = one_later f g site_is log_is;
    stopped = λ other. elim some [
      | inl part ↦ inl (subst (λ (asks : List Ask). IsPartRetrieved (SomeSays m (f ∷ []) (g ∷ [])) (SomeRules m (f ∷ []) (g ∷ [])) plan asks cause h) (sym (one_gained f g))
          (part_retrieved_more (m.says (m.site f)) (SomeSays m (f ∷ []) (g ∷ [])) (m.rules (m.site f)) (SomeRules m (f ∷ []) (g ∷ [])) (gained (m.log f) (m.log g)) (one_says f g) (one_rules f g) plan cause h part))
      | inr empty ↦ inr (record { memory = empty.memory; plan = empty.plan; state = empty.state; trace = empty.trace; once = subst AreOnce (sym (one_gained f g)) empty.once })
    ];
    full = full;
  }

  pub alone_retrieved : (fs : List F) (d g : F) (r : Result (Harvested B) (Halt B)) → length fs ≡ 1 → m.site g ≡ m.site (get_or fs 0 d) → m.log g ≡ m.log (get_or fs 0 d) ++ gained (m.log (get_or fs 0 d)) (m.log g)
      → IfOk r (IsRetrieved (m.says (m.site (get_or fs 0 d))) (m.rules (m.site (get_or fs 0 d))) plan (gained (m.log (get_or fs 0 d)) (m.log g))) → IfOk r AreEntries
      → IfOk r (λ h. IsRetrievedBy m plan fs (slice_set fs 0 g) h)
  alone_retrieved [] d g r one site_is log_is ok entries = absurd (omega arith)
  alone_retrieved (f ∷ []) d g (Ok h) one site_is log_is ok entries = one_retrieved f g h site_is log_is ok entries
  alone_retrieved (f ∷ []) d g (Err halt) one site_is log_is ok entries = tt
  alone_retrieved (f ∷ e ∷ fs) d g r one site_is log_is ok entries = absurd (omega arith)

  pub alone_stopped : (fs : List F) (d g : F) (r : Result (Harvested B) (Halt B)) → length fs ≡ 1 → m.site g ≡ m.site (get_or fs 0 d) → m.log g ≡ m.log (get_or fs 0 d) ++ gained (m.log (get_or fs 0 d)) (m.log g)
      → IfErr r (λ halt. IsStopped (m.says (m.site (get_or fs 0 d))) (m.rules (m.site (get_or fs 0 d))) plan (gained (m.log (get_or fs 0 d)) (m.log g)) halt.cause halt.harvest)
      → IfErr r (λ halt. halt.cause ≡ why.Full → IsFull plan halt.harvest.state) → IfErr r (λ halt. IsStoppedBy m plan fs (slice_set fs 0 g) halt.cause halt.harvest)
  alone_stopped [] d g r one site_is log_is err full = absurd (omega arith)
  alone_stopped (f ∷ []) d g (Ok h) one site_is log_is err full = tt
  alone_stopped (f ∷ []) d g (Err halt) one site_is log_is err full = one_stopped f g halt.cause halt.harvest site_is log_is err full
  alone_stopped (f ∷ e ∷ fs) d g r one site_is log_is err full = absurd (omega arith)

  -- ---- for a whole site

  module _ (old new : List F) (whole : Answers) (fit : AllFit m old whole) where
    pub whole_retrieved : (h : Harvested B) → IsRetrievedBy m plan old new h → IsCompleteFor (policy plan) whole h.state
    whole_retrieved h b = complete_for (policy plan) h.state whole b.retrieved.complete
        (fits_extend (SomeSays m old new) (SomeRules m old new) whole (answers h.state) (crew_fits m old new whole fit) b.retrieved.told)

    pub whole_stopped : (cause : Cause) (h : Harvested B) → IsStoppedBy m plan old new cause h → cause ≡ why.Full → HasTooMany (policy plan) whole
    whole_stopped cause h l is = elim (l.stopped (λ (wrong : cause ≡ why.Mismatch). let other : why.Mismatch ≡ why.Full = sym wrong ∙ is in cc)) [
      | inl part ↦ too_many_up (policy plan) (answers h.state) whole
          (fits_extend (SomeSays m old new) (SomeRules m old new) whole (answers h.state) (crew_fits m old new whole fit) part.told) (l.full is).0
      | inr empty ↦ absurd (let other : why.Memory ≡ why.Full = sym empty.memory ∙ is in cc)
    ]

    pub never_retrieved : (h : Harvested B) → IsRetrievedBy m plan old new h → HasTooMany (policy plan) whole → ⊥
    never_retrieved h b many = not_too_many (policy plan) h.state whole b.retrieved.complete
        (fits_extend (SomeSays m old new) (SomeRules m old new) whole (answers h.state) (crew_fits m old new whole fit) b.retrieved.told)
        (sound_replay (policy plan) h.trace h.state plan.starts_in_range b.retrieved.replay).few many

-- ---- if there is no memory to bring the notes together

module _ {F B : Type 0} (m : Meaning F B) (plan : Plan) where
  pub bare_later : (old new : List F) (ss ts us : List (Seat F B)) → fetchers_of ss ≡ old → new ≡ fetchers_of us → AllZip IsOrdered ts us → AllGo m plan ss ts → AreLater m old new
  bare_later old new ss ts us from to moved go = crew_later m plan old new ss ts from (to ∙ same_fetchers ts us moved) go

  pub bare_once : (old new : List F) (ss ts us : List (Seat F B)) → fetchers_of ss ≡ old → new ≡ fetchers_of us → AllZip IsOrdered ts us → page_notes ss ≡ [] → rules_notes ss ≡ []
      → AllGo m plan ss ts → IsOnce (addresses (page_notes ts)) → IsOnce (origins (rules_notes ts)) → AreOnce (all_gained m old new)
  bare_once old new ss ts us from to moved no_pages no_sets go pages sets =
      let at : new ≡ fetchers_of ts = to ∙ same_fetchers ts us moved in
      rw (← from, at) record {
        pages = subst IsOnce (sym (pages_are_noted m plan ss ts go no_pages)) pages;
        origins = subst IsOnce (sym (rules_are_noted m plan ss ts go no_sets)) sets;
      }

-- ---- who took what

pub account_own : {F B : Type 0} (m : Meaning F B) (old new : List F) (noted : KnownNotes B) (notes : Notes B) → IsOwnAccount m old new noted → noted ≡ known.All notes
    → (trace : List Event) → AreNotedBy notes.pages.items notes.rules.items trace → AreOwn m 0 old new trace
account_own {B = B} m old new noted notes account is = subst (λ (n : KnownNotes B). IsOwnAccount m old new n) is account

-- ---- what a retrieval results in, beside its fetchers

module _ {F B : Type 0} (m : Meaning F B) (plan : Plan) (old new : List F) where
  -- it retrieved all
  abbrev pub Retrieves : Result (Harvested B) (Halt B) → Type 0
  Retrieves r = IfOk r (λ h. IsRetrievedBy m plan old new h)

  -- it stopped
  abbrev pub Stops : Result (Harvested B) (Halt B) → Type 0
  Stops r = IfErr r (λ halt. IsStoppedBy m plan old new halt.cause halt.harvest)

  pub later_told : (r : Result (Harvested B) (Halt B)) → Retrieves r → Stops r → AreLater m old new
  later_told (Ok h) ok err = ok.later
  later_told (Err halt) ok err = err.later

  pub retrieved_told : (r : Result (Harvested B) (Halt B)) → Retrieves r → IfOk r (IsRetrieved (SomeSays m old new) (SomeRules m old new) plan (all_gained m old new))
  retrieved_told (Ok h) ok = ok.retrieved
  retrieved_told (Err halt) ok = tt

  pub stopped_told : (r : Result (Harvested B) (Halt B)) → Stops r
      → IfErr r (λ halt. halt.cause ≢ why.Mismatch → IsStopped (SomeSays m old new) (SomeRules m old new) plan (all_gained m old new) halt.cause halt.harvest)
  stopped_told (Ok h) err = tt
  stopped_told (Err halt) err = err.stopped

  pub found_told : (r : Result (Harvested B) (Halt B)) → Retrieves r
      → IfOk r (λ h. (found : Answers) × AreAsked (SomeSays m old new) (SomeRules m old new) plan (all_gained m old new) found × AreFound plan found h.entries)
  found_told (Ok h) ok = retrieved_found (SomeSays m old new) (SomeRules m old new) plan (all_gained m old new) h ok.entries ok.retrieved
  found_told (Err halt) ok = tt

  pub once_told : (r : Result (Harvested B) (Halt B)) → Stops r → IfErr r (λ halt. halt.cause ≢ why.Mismatch → AreMadeOnce (all_gained m old new))
  once_told (Ok h) err = tt
  once_told (Err halt) err = λ other.
      stopped_once (SomeSays m old new) (SomeRules m old new) plan (all_gained m old new) halt.cause halt.harvest (err.stopped other)

  pub full_told : (r : Result (Harvested B) (Halt B)) → Stops r → IfErr r (λ halt. halt.cause ≡ why.Full → IsFull plan halt.harvest.state)
  full_told (Ok h) err = tt
  full_told (Err halt) err = err.full

  module _ (whole : Answers) (fit : AllFit m old whole) where
    pub whole_told : (r : Result (Harvested B) (Halt B)) → Retrieves r → IfOk r (λ h. IsCompleteFor (policy plan) whole h.state)
    whole_told (Ok h) ok = whole_retrieved m plan old new whole fit h ok
    whole_told (Err halt) ok = tt

    pub full_site_told : (r : Result (Harvested B) (Halt B)) → Stops r → IfErr r (λ halt. halt.cause ≡ why.Full → HasTooMany (policy plan) whole)
    full_site_told (Ok h) err = tt
    full_site_told (Err halt) err = whole_stopped m plan old new whole fit halt.cause halt.harvest err

    pub crowded_told : (r : Result (Harvested B) (Halt B)) → Retrieves r → HasTooMany (policy plan) whole → IsErr r
    crowded_told (Ok h) ok many = absurd (never_retrieved m plan old new whole fit h ok many)
    crowded_told (Err halt) ok many = refl

-- ---- what it resulted in, with its fetchers

module _ {F B : Type 0} (result : Result (Retrieved F B) (Stopped F B)) (r : Result (Harvested B) (Halt B)) (new : List F) where
  -- the harvest is the same, and so are the fetchers
  abbrev pub IsOkWith : Type 0
  IsOkWith = IfOk result (λ all. (all.fetchers.items ≡ new) × IfOk r (λ h. all.harvest ≡ h) × IsOk r)

  abbrev pub IsErrWith : Type 0
  IsErrWith = IfErr result (λ s. (s.fetchers.items ≡ new) × IfErr r (λ halt. (s.cause ≡ halt.cause) × (s.harvest ≡ halt.harvest)) × IsErr r)

-- what is said of a harvest and the fetchers is said of both together
pub ok_with : {F B : Type 0} (A : List F → Harvested B → Type 0) (result : Result (Retrieved F B) (Stopped F B)) (r : Result (Harvested B) (Halt B)) (new : List F) → IsOkWith result r new
    → IfOk r (λ h. A new h) → IfOk result (λ all. A all.fetchers.items all.harvest)
ok_with {B = B} A (Ok all) (Ok h) new (of, is, ok) told = subst (λ fs. A fs all.harvest) (sym of) (subst (λ (x : Harvested B). A new x) (sym is) told)
ok_with {B = B} A (Ok all) (Err halt) new (of, is, ok) told = absurd (false≢true ok)
ok_with {B = B} A (Err s) r new with told = tt

pub err_with : {F B : Type 0} (A : List F → Cause → Harvested B → Type 0) (result : Result (Retrieved F B) (Stopped F B)) (r : Result (Harvested B) (Halt B)) (new : List F) → IsErrWith result r new
    → IfErr r (λ halt. A new halt.cause halt.harvest) → IfErr result (λ s. A s.fetchers.items s.cause s.harvest)
err_with {B = B} A (Ok all) r new with told = tt
err_with {B = B} A (Err s) (Ok h) new (of, is, err) told = absurd (false≢true err)
err_with {B = B} A (Err s) (Err halt) new (of, is, err) told =
    subst (λ fs. A fs s.cause s.harvest) (sym of) (subst (λ (x : Cause). A new x s.harvest) (sym is.0) (subst (λ (x : Harvested B). A new halt.cause x) (sym is.1) told))

-- so is what is said of the fetchers alone
pub both_with : {F B : Type 0} (A : List F → Type 0) (result : Result (Retrieved F B) (Stopped F B)) (r : Result (Harvested B) (Halt B)) (new : List F) → IsOkWith result r new → IsErrWith result r new
    → A new → IfOk result (λ all. A all.fetchers.items) × IfErr result (λ s. A s.fetchers.items)
both_with A (Ok all) r new ok err told = (subst A (sym ok.0) told, tt)
both_with A (Err s) r new ok err told = (tt, subst A (sym err.0) told)

-- and that it stopped
pub is_err_with : {F B : Type 0} (result : Result (Retrieved F B) (Stopped F B)) (r : Result (Harvested B) (Halt B)) (new : List F) → IsOkWith result r new → IsErr r → IsErr result
is_err_with (Ok all) (Ok h) new ok err = err
is_err_with (Ok all) (Err halt) new ok err = absurd (false≢true ok.2)
is_err_with (Err s) r new ok err = refl
