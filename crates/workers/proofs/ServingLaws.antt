-- From what was noted and concluded to what was retrieved, or was until the stop.
use Rattle.std.proofs.Common.{◌≡◌, ℕ, inl, inr, true, false, Bool, ◌&&◌, List, [], ◌∷◌, Some, None, Option, Result, Ok, Err, refl, sym, ap, ◌∙◌, subst}
use Rattle.std.specs.Prelude.{All, Contains, IsSome, MatchOption, IfSome, IfOk, IfErr, IsOk, IsErr, if◌then◌else◌}
use Rattle.std.specs.List.{filter_map, AllZip}
use Rattle.std.specs.Option.{is_some}
use Rattle.std.proofs.lemmas.Bool.{false≢true}
use Rattle.std.proofs.lemmas.List.Elements.{All-nil, All-cons, All-head, All-tail, All-weaker}
use Rattle.follow_filters.specs.Rules.{keeps_of}
use Rattle.follow_filters.specs.declared.plan.Plan.{Plan}
use Rattle.robots_rules.specs.Access.{RuleSetValue}
use Rattle.fetcher.specs.declared.fetcher.Ask.{Ask}
use Rattle.fetcher.specs.declared.fetcher.Fetcher.{Ghosts as Meaning}
use Rattle.fetcher.specs.declared.outcome.Outcome.{Outcome}
use Rattle.frontier_core.specs.Tables.{Text, lookup}
use Rattle.frontier_core.specs.Plans.{policy}
use Rattle.frontier_core.specs.Machine.{State, Slot, answers, IsQuiet, is_done, is_known, slot, slot_outcome, Out, Nobody, OriginRules, Asked, known_rules_in}
use Rattle.frontier_core.specs.Lines.{IsReplay}
use Rattle.frontier_core.specs.Invariants.{IsComplete, IsGivenUp, AreRulesGivenUp}
use Rattle.frontier_core.specs.Routes.{Answers}
use Rattle.workers.specs.Crews.{SomeSays, SomeRules, AllFit}
use Rattle.workers.specs.Sites.{Fits}
use Rattle.frontier_core.specs.Traced.{Traced}
use Rattle.frontier_core.specs.declared.event.Cause.{Cause}
use Rattle.frontier_core.proofs.TableLaws.{same, other, compare_texts}
use Rattle.frontier_core.proofs.Needs.{needed_replay}
use Rattle.frontier_core.proofs.Runs.{sound_replay, closed_replay}
use Rattle.workers.specs.declared.note.PageNote.{PageNote}
use Rattle.workers.specs.declared.note.RulesNote.{RulesNote}
use Rattle.harvest.specs.declared.page.KeptPage.{KeptPage}
use Rattle.workers.specs.declared.retrieval.Halt.{Halt}
use Rattle.workers.specs.Asks.{pages_asked, origins_asked, IsOfSite}
use Rattle.workers.specs.inner.Concluded.{HasBody, IsConcluded, IsBare}
use Rattle.harvest.specs.Harvests.{Harvested}
use Rattle.workers.specs.inner.Noted.{AreNoted, Agrees, StandsPage, StandsRules, page_of}
use Rattle.workers.specs.inner.Notes.{IsPageOfSite, AreRulesOfSite, origins, body_of}
use Rattle.harvest.specs.Pages.{IsBodyOf, is_success}
use Rattle.workers.specs.Retrieval.{IsRetrieved, IsPartRetrieved, IsStopped}
use Rattle.workers.specs.inner.Turns.{IsServing, AtEnd, AtStop}
use Rattle.workers.proofs.ConclusionLaws.{found_note, noted_moved, once_asked, rules_noted, recorded_or_lost, kept_once, kept_is}
use Rattle.workers.proofs.RetrievalLaws.{retrieved, part_retrieved}

-- what holds of each entry holds of the one that is found
held_done : (entries : List (Text × Slot)) (u : Text) (e : Slot) → All (λ entry. is_done entry.1.progress ≡ true) entries → lookup entries u ≡ Some e → is_done e.progress ≡ true
held_done [] u e all found = cc
held_done (entry ∷ entries) u e all found = elim (compare_texts entry.0 u) [
  | same h t ↦ (let at : Some entry.1 ≡ Some e = rw t at found in let is : entry.1 ≡ e = cc in
      subst (λ (x : Slot). is_done x.progress ≡ true) is (All-head (λ (entry : Text × Slot). is_done entry.1.progress ≡ true) entry entries all))
  | other h t ↦ held_done entries u e (All-tail (λ (entry : Text × Slot). is_done entry.1.progress ≡ true) entry entries all) (rw t at found)
]

origin_known : (origins : List (Text × OriginRules)) (o : Text) (q : OriginRules) → All (λ origin. is_known origin.1 ≡ true) origins → lookup origins o ≡ Some q → is_known q ≡ true
origin_known [] o q all found = cc
origin_known (origin ∷ origins) o q all found = elim (compare_texts origin.0 o) [
  | same h t ↦ (let at : Some origin.1 ≡ Some q = rw t at found in let is : origin.1 ≡ q = cc in
      subst (λ (x : OriginRules). is_known x ≡ true) is (All-head (λ (origin : Text × OriginRules). is_known origin.1 ≡ true) origin origins all))
  | other h t ↦ origin_known origins o q (All-tail (λ (origin : Text × OriginRules). is_known origin.1 ≡ true) origin origins all) (rw t at found)
]

body_some : {B : Type 0} (c : Bool) (body : B) → is_some (if c then Some body else None) ≡ c
body_some true body = refl
body_some false body = refl

body_is : {B : Type 0} (c : Bool) (body other : B) → Some other ≡ (if c then Some body else None) → body ≡ other
body_is true body found h = cc
body_is false body found h = cc

module _ {B : Type 0} (may_say : Text → Outcome → B → Type 0) (may_rule : Text → RuleSetValue → Type 0) (plan : Plan) where
  -- a body is noted exactly if the page is kept
  pub has_body : (note : PageNote B) → IsPageOfSite may_say plan note → HasBody plan note
  has_body note h = go note.outcome h
    where
      go : (o : Option Outcome) → MatchOption o (note.body ≡ None) (λ x. (body : B) × may_say note.address x body × (note.body ≡ body_of plan note.address x body))
          → MatchOption o (note.body ≡ None) (λ x. is_some note.body ≡ (keeps_of plan note.address && is_success x))
      go None is = is
      go (Some x) (body, said, is) = ap is_some is ∙ body_some (keeps_of plan note.address && is_success x) body

  told_at : (s : State) (note : PageNote B) (u : Text) (x : Outcome) → note.address ≡ u → (answers s).outcome u ≡ Some x → StandsPage s note → IsPageOfSite may_say plan note → (body : B) × may_say u x body
  told_at s note u x is found stands told = go note.outcome stands told
    where
      go : (o : Option Outcome) → MatchOption o (IsGivenUp s note.address) (λ y. (answers s).outcome note.address ≡ Some y)
          → MatchOption o (note.body ≡ None) (λ y. (body : B) × may_say note.address y body × (note.body ≡ body_of plan note.address y body)) → (body : B) × may_say u x body
      go None (d, lost) none = absurd (let gone : (answers s).outcome note.address ≡ None = ap slot_outcome lost in let here : (answers s).outcome note.address ≡ Some x = ap (λ (w : Text). (answers s).outcome w) is ∙ found in cc)
      go (Some y) stood (body, said, kept) =
          let here : (answers s).outcome note.address ≡ Some x = ap (λ (w : Text). (answers s).outcome w) is ∙ found in
          let at : y ≡ x = cc in
          (body, subst (λ (w : Text). may_say w x body) is (subst (λ (z : Outcome). may_say note.address z body) at said))

  ruled_at : (s : State) (note : RulesNote) (o : Text) (r : RuleSetValue) → note.origin ≡ o → (answers s).rules o ≡ Some r → StandsRules s note → AreRulesOfSite may_rule note → may_rule o r
  ruled_at s note o r is found stands told = go note.rules stands told
    where
      go : (t : Option RuleSetValue) → MatchOption t (AreRulesGivenUp s note.origin) (λ y. (answers s).rules note.origin ≡ Some y) → IfSome t (λ y. may_rule note.origin y) → may_rule o r
      go None lost h = absurd (let gone : (answers s).rules note.origin ≡ None = ap known_rules_in lost in let here : (answers s).rules note.origin ≡ Some r = ap (λ (w : Text). (answers s).rules w) is ∙ found in cc)
      go (Some y) stood h =
          let here : (answers s).rules note.origin ≡ Some r = ap (λ (w : Text). (answers s).rules w) is ∙ found in
          let at : y ≡ r = cc in
          subst (λ (w : Text). may_rule w r) is (subst (λ (z : RuleSetValue). may_rule note.origin z) at h)

  is_told : (s : State) (asks : List Ask) (notes : List (PageNote B)) (sets : List RulesNote) → AreNoted may_say may_rule plan asks notes sets → Agrees s notes sets → IsOfSite may_say may_rule (answers s)
  is_told s asks notes sets noted agrees = record {
    outcomes = λ u x found. (let (note, is, both) = found_note (λ (note : PageNote B). note.address) (λ (note : PageNote B). StandsPage s note × IsPageOfSite may_say plan note) notes u (λ k d lt. (agrees.stand k d lt, noted.told k d lt)) (agrees.recorded u (ap is_some found)) in
        told_at s note u x is found both.0 both.1);
    rules = λ o r found. (let (note, is, both) = found_note (λ (note : RulesNote). note.origin) (λ (note : RulesNote). StandsRules s note × AreRulesOfSite may_rule note) sets o (λ k d lt. (agrees.stand_rules k d lt, noted.ruled k d lt)) (agrees.ruled o (ap is_some found)) in
        ruled_at s note o r is found both.0 both.1);
  }

  body_at : (s : State) (note : PageNote B) (body : B) → note.body ≡ Some body → StandsPage s note → IsPageOfSite may_say plan note → IsBodyOf may_say (answers s) note.address body
  body_at s note body is stands told = go note.outcome stands told
    where
      go : (o : Option Outcome) → MatchOption o (IsGivenUp s note.address) (λ y. (answers s).outcome note.address ≡ Some y)
          → MatchOption o (note.body ≡ None) (λ y. (b : B) × may_say note.address y b × (note.body ≡ body_of plan note.address y b)) → IsBodyOf may_say (answers s) note.address body
      go None lost none = absurd (let h : None ≡ Some body = sym none ∙ is in cc)
      go (Some x) stood (b, said, kept) =
          (x, stood, subst (λ (z : B). may_say note.address x z) (body_is (keeps_of plan note.address && is_success x) b body (sym is ∙ kept)) said)

  bodies_of : (s : State) (notes : List (PageNote B)) → All (StandsPage s) notes → All (IsPageOfSite may_say plan) notes → All (λ page. IsBodyOf may_say (answers s) page.address page.body) (filter_map page_of notes)
  bodies_of s [] stand told = All-nil (λ (page : KeptPage B). IsBodyOf may_say (answers s) page.address page.body)
  bodies_of s (note ∷ notes) stand told =
      go (bodies_of s notes (All-tail (StandsPage s) note notes stand) (All-tail (IsPageOfSite may_say plan) note notes told)) note.body refl
    where
      go : All (λ page. IsBodyOf may_say (answers s) page.address page.body) (filter_map page_of notes) → (o : Option B) → note.body ≡ o
          → All (λ page. IsBodyOf may_say (answers s) page.address page.body) (filter_map page_of (note ∷ notes))
      go rest None is = rw is rest
      go rest (Some body) is =
          rw is (All-cons (λ (page : KeptPage B). IsBodyOf may_say (answers s) page.address page.body) (record { address = note.address; body = body }) (filter_map page_of notes)
          (body_at s note body is (All-head (StandsPage s) note notes stand) (All-head (IsPageOfSite may_say plan) note notes told)) rest)

  known_some : (s : State) (o : Text) (told : Option RuleSetValue) → MatchOption told (AreRulesGivenUp s o) (λ r. (answers s).rules o ≡ Some r) → IsSome (lookup s.origins o)
  known_some s o None lost = ap is_some lost
  known_some s o (Some r) known = go (lookup s.origins o) known
    where
      go : (q : Option OriginRules) → known_rules_in q ≡ Some r → IsSome q
      go None h = cc
      go (Some q) h = refl

  pub serving : (t : Traced) (asks : List Ask) (notes : List (PageNote B)) (sets : List RulesNote) → t.plan ≡ plan → IsReplay (policy t.plan) t.trace t.state
      → AreNoted may_say may_rule plan asks notes sets → Agrees t.state notes sets → IsServing may_say may_rule plan t asks (filter_map page_of notes)
  serving t asks notes sets follows replay noted agrees =
      let here : IsReplay (policy plan) t.trace t.state = subst (λ (x : Plan). IsReplay (policy x) t.trace t.state) follows replay in
      record {
        follows = follows;
        once = once_asked may_say may_rule plan asks notes sets noted agrees.once agrees.once_origins;
        told = is_told t.state asks notes sets noted agrees;
        needed = λ o among. (let (note, is, stands) = rules_noted may_say may_rule plan asks notes sets noted (StandsRules t.state) agrees.stand_rules o among in
            needed_replay (policy plan) t.trace t.state here o (subst (λ (w : Text). IsSome (lookup t.state.origins w)) is (known_some t.state note.origin note.rules stands)));
        kept = record {
          once = kept_once notes agrees.once;
          addresses = kept_is plan t.state notes sets agrees (All-weaker (IsPageOfSite may_say plan) (HasBody plan) has_body notes noted.told);
          bodies = bodies_of t.state notes agrees.stand noted.told;
        };
      }

  pub at_end : (t : Traced) (asks : List Ask) (notes : List (PageNote B)) (sets : List RulesNote) → t.plan ≡ plan → IsReplay (policy t.plan) t.trace t.state
      → AreNoted may_say may_rule plan asks notes sets → Agrees t.state notes sets → IsQuiet t.state → IsComplete (policy t.plan) t.state → AtEnd may_say may_rule plan t asks (filter_map page_of notes)
  at_end t asks notes sets follows replay noted agrees quiet complete =
      let all = recorded_or_lost may_say may_rule plan asks notes sets t.state noted agrees in
      record {
        serving = serving t asks notes sets follows replay noted agrees;
        recorded = record {
          pages = λ u. (
            (λ among. elim (all.pages u among) [
              | inl some ↦ some
              | inr lost ↦ absurd (let done = held_done t.state.entries u (slot lost.0 (Out Nobody)) quiet.entries lost.1 in false≢true done)
            ]),
            all.recorded u,
          );
          origins = λ o. (
            (λ among. elim (all.origins o among) [
              | inl some ↦ some
              | inr lost ↦ absurd (let known = origin_known t.state.origins o (Asked Nobody) quiet.origins lost in false≢true known)
            ]),
            all.ruled o,
          );
        };
        quiet = quiet;
        complete = subst (λ (x : Plan). IsComplete (policy x) t.state) follows complete;
      }

  pub at_stop : (t : Traced) (asks : List Ask) (notes : List (PageNote B)) (sets : List RulesNote) → t.plan ≡ plan → IsReplay (policy t.plan) t.trace t.state
      → AreNoted may_say may_rule plan asks notes sets → Agrees t.state notes sets → AtStop may_say may_rule plan t asks (filter_map page_of notes)
  at_stop t asks notes sets follows replay noted agrees = record {
    serving = serving t asks notes sets follows replay noted agrees;
    recorded = recorded_or_lost may_say may_rule plan asks notes sets t.state noted agrees;
  }

  -- ---- what was retrieved, at the end or until the stop

  pub crew_retrieved : (t : Traced) (asks : List Ask) (notes : List (PageNote B)) (sets : List RulesNote) (h : Harvested B) → AreNoted may_say may_rule plan asks notes sets
      → IsConcluded plan t notes sets h → IsQuiet t.state → IsComplete (policy t.plan) t.state → IsRetrieved may_say may_rule plan asks h
  crew_retrieved t asks notes sets h noted all quiet complete =
      let moved = noted_moved may_say may_rule plan asks notes all.sorted sets all.sorted_sets noted all.moved all.moved_sets in
      retrieved may_say may_rule plan t asks (filter_map page_of all.sorted) h (at_end t asks all.sorted all.sorted_sets all.follows all.replay moved all.agrees quiet complete) all.replay all.harvest

  pub crew_part_retrieved : (t : Traced) (asks : List Ask) (notes : List (PageNote B)) (sets : List RulesNote) (cause : Cause) (h : Harvested B) → AreNoted may_say may_rule plan asks notes sets
      → IsConcluded plan t notes sets h → t.state.cause ≡ Some cause → IsPartRetrieved may_say may_rule plan asks cause h
  crew_part_retrieved t asks notes sets cause h noted all stopped =
      let moved = noted_moved may_say may_rule plan asks notes all.sorted sets all.sorted_sets noted all.moved all.moved_sets in
      part_retrieved may_say may_rule plan t asks (filter_map page_of all.sorted) cause h stopped (at_stop t asks all.sorted all.sorted_sets all.follows all.replay moved all.agrees) all.replay
      (sound_replay (policy t.plan) t.trace t.state t.plan.starts_in_range all.replay) (closed_replay (policy t.plan) t.trace t.state all.replay) all.harvest

  pub crew_bare : (asks : List Ask) (notes : List (PageNote B)) (sets : List RulesNote) (cause : Cause) (h : Harvested B) → AreNoted may_say may_rule plan asks notes sets
      → IsBare notes sets cause h → IsStopped may_say may_rule plan asks cause h
  crew_bare asks notes sets cause h noted bare = inr (record {
    memory = bare.nothing.memory;
    plan = bare.nothing.plan;
    state = bare.nothing.state;
    trace = bare.nothing.trace;
    once = once_asked may_say may_rule plan asks notes sets noted bare.once bare.once_origins;
  })

-- what is said of each note is said of all
pub all_has_body : {B : Type 0} (may_say : Text → Outcome → B → Type 0) (plan : Plan) (notes : List (PageNote B)) → All (IsPageOfSite may_say plan) notes → All (HasBody plan) notes
all_has_body may_say plan notes told = All-weaker (IsPageOfSite may_say plan) (HasBody plan) (has_body may_say (λ o r. Unit {0}) plan) notes told

-- a harvest that is handed on
pub ok_from : {B : Type 0} (concluded : Result (Harvested B) (Halt B)) (h : Harvested B) (A : Harvested B → Type 0) → IfOk concluded A → IsOk concluded → IfOk concluded (λ k. h ≡ k) → A h
ok_from (Ok k) h A all ok is = subst A (sym is) all
ok_from (Err halt) h A all ok is = absurd (false≢true ok)

pub err_from : {B : Type 0} (concluded : Result (Harvested B) (Halt B)) (cause : Cause) (h : Harvested B) (A : Cause → Harvested B → Type 0) → IfErr concluded (λ halt. A halt.cause halt.harvest) → IsErr concluded
    → IfErr concluded (λ halt. (cause ≡ halt.cause) × (h ≡ halt.harvest)) → A cause h
err_from {B = B} (Ok k) cause h A all err is = absurd (false≢true err)
err_from {B = B} (Err halt) cause h A all err is = subst (λ (x : Cause). A x h) (sym is.0) (subst (λ (x : Harvested B). A halt.cause x) (sym is.1) all)

-- ---- sites that fit, and sites that may say more

module _ {F B : Type 0} (m : Meaning F B) where
  some_say : (fs gs : List F) (whole : Answers) → AllFit m fs whole → (u : Text) (x : Outcome) (body : B) → SomeSays m fs gs u x body → whole.outcome u ≡ Some x
  some_say [] gs whole fit u x body h = absurd h
  some_say (f ∷ fs) [] whole fit u x body h = absurd h
  some_say (f ∷ fs) (g ∷ gs) whole fit u x body (inl (among, said)) = (All-head (λ (f : F). Fits (m.says (m.site f)) (m.rules (m.site f)) whole) f fs fit).outcomes u x body said
  some_say (f ∷ fs) (g ∷ gs) whole fit u x body (inr h) = some_say fs gs whole (All-tail (λ (f : F). Fits (m.says (m.site f)) (m.rules (m.site f)) whole) f fs fit) u x body h

  some_rule : (fs gs : List F) (whole : Answers) → AllFit m fs whole → (o : Text) (r : RuleSetValue) → SomeRules m fs gs o r → whole.rules o ≡ Some r
  some_rule [] gs whole fit o r h = absurd h
  some_rule (f ∷ fs) [] whole fit o r h = absurd h
  some_rule (f ∷ fs) (g ∷ gs) whole fit o r (inl (among, said)) = (All-head (λ (f : F). Fits (m.says (m.site f)) (m.rules (m.site f)) whole) f fs fit).rules o r said
  some_rule (f ∷ fs) (g ∷ gs) whole fit o r (inr h) = some_rule fs gs whole (All-tail (λ (f : F). Fits (m.says (m.site f)) (m.rules (m.site f)) whole) f fs fit) o r h

  -- if the site of each fits, so does what some of them say
  pub crew_fits : (fs gs : List F) (whole : Answers) → AllFit m fs whole → Fits (SomeSays m fs gs) (SomeRules m fs gs) whole
  crew_fits fs gs whole fit = record { outcomes = some_say fs gs whole fit; rules = some_rule fs gs whole fit }

module _ {B : Type 0} (may may' : Text → Outcome → B → Type 0) (rule rule' : Text → RuleSetValue → Type 0) (asks : List Ask)
    (more : (u : Text) (x : Outcome) (body : B) → Contains (pages_asked asks) u → may u x body → may' u x body)
    (more_rules : (o : Text) (r : RuleSetValue) → Contains (origins_asked asks) o → rule o r → rule' o r) where
  told_by_more : (m : Answers) → ((u : Text) → IsSome (m.outcome u) → Contains (pages_asked asks) u) → ((o : Text) → IsSome (m.rules o) → Contains (origins_asked asks) o) → IsOfSite may rule m → IsOfSite may' rule' m
  told_by_more m asked asked_rules told = record {
    outcomes = λ u x found. (let (body, said) = told.outcomes u x found in (body, more u x body (asked u (ap is_some found)) said));
    rules = λ o r found. more_rules o r (asked_rules o (ap is_some found)) (told.rules o r found);
  }

  bodies_by_more : (m : Answers) → ((u : Text) → IsSome (m.outcome u) → Contains (pages_asked asks) u) → (us : List Text) (bs : List B) → AllZip (IsBodyOf may m) us bs → AllZip (IsBodyOf may' m) us bs
  bodies_by_more m asked [] [] h = tt
  bodies_by_more m asked [] (b ∷ bs) h = absurd h
  bodies_by_more m asked (u ∷ us) [] h = absurd h
  bodies_by_more m asked (u ∷ us) (b ∷ bs) ((x, found, said), rest) = ((x, found, more u x b (asked u (ap is_some found)) said), bodies_by_more m asked us bs rest)

  -- what was retrieved by one fetcher was by a crew of one
  pub retrieved_more : (plan : Plan) (h : Harvested B) → IsRetrieved may rule plan asks h → IsRetrieved may' rule' plan asks h
  retrieved_more plan h b = record {
    follows = b.follows;
    replay = b.replay;
    quiet = b.quiet;
    complete = b.complete;
    once = b.once;
    recorded = b.recorded;
    told = told_by_more (answers h.state) (λ u. (b.recorded.pages u).1) (λ o. (b.recorded.origins o).1) b.told;
    bodies = bodies_by_more (answers h.state) (λ u. (b.recorded.pages u).1) h.kept h.bodies b.bodies;
  }

  pub part_retrieved_more : (plan : Plan) (cause : Cause) (h : Harvested B) → IsPartRetrieved may rule plan asks cause h → IsPartRetrieved may' rule' plan asks cause h
  part_retrieved_more plan cause h b = record {
    follows = b.follows;
    replay = b.replay;
    stopped = b.stopped;
    once = b.once;
    recorded = b.recorded;
    wanted = b.wanted;
    needed = b.needed;
    told = told_by_more (answers h.state) b.recorded.recorded b.recorded.ruled b.told;
    bodies = bodies_by_more (answers h.state) b.recorded.recorded h.kept h.bodies b.bodies;
  }
