-- From what the workers did at their seats to what the fetchers were asked and what they may have said.
use Rattle.std.proofs.Common.{◌≡◌, ◌+◌, ◌<◌, ℕ, zero, suc, List, [], ◌∷◌, ◌++◌, length, get_or, map, refl, sym, ap, ◌∙◌, subst, inl, inr, arith, Option, Some, None}
use Rattle.std.specs.Prelude.{All, Contains, MatchOption, IfSome, IsPermutation}
use Rattle.std.proofs.lemmas.List.{map-append, length-map, get_or-map}
use Rattle.std.proofs.lemmas.List.Elements.{All-append, All-nil, All-weaker, filter_map-append}
use Rattle.std.proofs.lemmas.List.Sorted.{IsPermutation-refl}
use Rattle.follow_filters.specs.declared.plan.Plan.{Plan}
use Rattle.robots_rules.specs.Access.{RuleSetValue}
use Rattle.fetcher.specs.declared.fetcher.Fetcher.{Ghosts as Meaning}
use Rattle.fetcher.specs.declared.outcome.Outcome.{Outcome}
use Rattle.frontier_core.specs.Tables.{Text}
use Rattle.frontier_core.specs.declared.event.Event.{Event}
use Rattle.frontier_core.specs.declared.event.Event.TheVariants as line
use Rattle.workers.specs.declared.note.PageNote.{PageNote}
use Rattle.workers.specs.declared.note.RulesNote.{RulesNote}
use Rattle.workers.specs.declared.worker.Seat.{Seat}
use Rattle.workers.specs.Asks.{gained, page_asked, origin_asked, pages_asked, origins_asked}
use Rattle.workers.specs.Crews.{AreLater, all_gained, SomeSays, SomeRules}
use Rattle.workers.specs.inner.Noted.{AreNoted}
use Rattle.workers.specs.inner.Notes.{IsPageOfSite, AreRulesOfSite, addresses, origins, body_of}
use Rattle.workers.specs.inner.Seats.{SeatGoes, AllGo, fetchers_of, page_notes, rules_notes, AreNumbered}
use Rattle.workers.specs.Takers.{IsOwn, AreOwn}
use Rattle.workers.specs.inner.Takers.{IsNotedBy, AreNotedBy}
use Rattle.workers.proofs.TakerLaws.{worker_is, noted_left, noted_right}
use Rattle.workers.proofs.FoundLaws.{page_in, rules_in}
use Rattle.workers.proofs.RetrievalLaws.{gained_is, log_is}

nil_left : {X : Type 0} (xs ys : List X) → xs ++ ys ≡ [] → xs ≡ []
nil_left [] ys e = refl
nil_left (x ∷ xs) ys e = cc

nil_right : {X : Type 0} (xs ys : List X) → xs ++ ys ≡ [] → ys ≡ []
nil_right [] ys e = e
nil_right (x ∷ xs) ys e = cc

fresh : {X : Type 0} (old more new : List X) → new ≡ old ++ more → old ≡ [] → new ≡ more
fresh {X = X} old more new is none = is ∙ ap (λ (xs : List X). xs ++ more) none

-- what is noted is among the names
named_all : {X : Type 0} (key : X → Text) (xs : List X) → All (λ x. Contains (map key xs) (key x)) xs
named_all key xs k d lt = (k, omega (arith, length-map xs key), get_or-map key xs k d (key (get_or xs k d)) lt)

-- what may be said of a page may be said by more
told_more : {B : Type 0} (may may' : Text → Outcome → B → Type 0) (plan : Plan) (note : PageNote B) → ((x : Outcome) (body : B) → may note.address x body → may' note.address x body)
    → IsPageOfSite may plan note → IsPageOfSite may' plan note
told_more {B = B} may may' plan note more h = go note.outcome h
  where
    go : (o : Option Outcome) → MatchOption o (note.body ≡ None) (λ x. (body : B) × may note.address x body × (note.body ≡ body_of plan note.address x body))
        → MatchOption o (note.body ≡ None) (λ x. (body : B) × may' note.address x body × (note.body ≡ body_of plan note.address x body))
    go None is = is
    go (Some x) (body, said, is) = (body, more x body said, is)

ruled_more : (may may' : Text → RuleSetValue → Type 0) (note : RulesNote) → ((r : RuleSetValue) → may note.origin r → may' note.origin r) → AreRulesOfSite may note → AreRulesOfSite may' note
ruled_more may may' note more h = go note.rules h
  where
    go : (o : Option RuleSetValue) → IfSome o (λ r. may note.origin r) → IfSome o (λ r. may' note.origin r)
    go None is = tt
    go (Some r) is = more r is

all_both : {X : Type 0} (P Q R : X → Type 0) (xs : List X) → ((x : X) → P x → Q x → R x) → All P xs → All Q xs → All R xs
all_both P Q R xs turn a b k d lt = turn (get_or xs k d) (a k d lt) (b k d lt)

module _ {F B : Type 0} (m : Meaning F B) (plan : Plan) where
  pub all_later : (ss ts : List (Seat F B)) → AllGo m plan ss ts → AreLater m (fetchers_of ss) (fetchers_of ts)
  all_later [] [] go = tt
  all_later [] (t ∷ ts) go = absurd go
  all_later (s ∷ ss) [] go = absurd go
  all_later (s ∷ ss) (t ∷ ts) go =
      (record { site_is = go.0.site_is; log_is = log_is (m.log s.fetcher) (m.log t.fetcher) go.0.asks go.0.log_is }, all_later ss ts go.1)

  -- at a seat without notes what is noted is what was asked
  one_noted : (s t : Seat F B) (go : SeatGoes m plan s t) → s.notes.pages.items ≡ [] → pages_asked (gained (m.log s.fetcher) (m.log t.fetcher)) ≡ addresses t.notes.pages.items
  one_noted s t go none =
      ap pages_asked (gained_is (m.log s.fetcher) (m.log t.fetcher) go.asks go.log_is) ∙ (go.pages_noted ∙ ap addresses (sym (fresh s.notes.pages.items go.pages t.notes.pages.items go.pages_are none)))

  one_ruled : (s t : Seat F B) (go : SeatGoes m plan s t) → s.notes.rules.items ≡ [] → origins_asked (gained (m.log s.fetcher) (m.log t.fetcher)) ≡ origins t.notes.rules.items
  one_ruled s t go none =
      ap origins_asked (gained_is (m.log s.fetcher) (m.log t.fetcher) go.asks go.log_is) ∙ (go.rules_noted ∙ ap origins (sym (fresh s.notes.rules.items go.sets t.notes.rules.items go.sets_are none)))

  pub pages_are_noted : (ss ts : List (Seat F B)) → AllGo m plan ss ts → page_notes ss ≡ [] → pages_asked (all_gained m (fetchers_of ss) (fetchers_of ts)) ≡ addresses (page_notes ts)
  pages_are_noted [] [] go none = refl
  pages_are_noted [] (t ∷ ts) go none = absurd go
  pages_are_noted (s ∷ ss) [] go none = absurd go
  pages_are_noted (s ∷ ss) (t ∷ ts) go none =
      let one = one_noted s t go.0 (nil_left s.notes.pages.items (page_notes ss) none) in
      let rest = pages_are_noted ss ts go.1 (nil_right s.notes.pages.items (page_notes ss) none) in
      filter_map-append page_asked (gained (m.log s.fetcher) (m.log t.fetcher)) (all_gained m (fetchers_of ss) (fetchers_of ts))
      ∙ (ap (λ (us : List Text). us ++ pages_asked (all_gained m (fetchers_of ss) (fetchers_of ts))) one
      ∙ (ap (λ (us : List Text). addresses t.notes.pages.items ++ us) rest ∙ sym (map-append (λ (note : PageNote B). note.address) t.notes.pages.items (page_notes ts))))

  pub rules_are_noted : (ss ts : List (Seat F B)) → AllGo m plan ss ts → rules_notes ss ≡ [] → origins_asked (all_gained m (fetchers_of ss) (fetchers_of ts)) ≡ origins (rules_notes ts)
  rules_are_noted [] [] go none = refl
  rules_are_noted [] (t ∷ ts) go none = absurd go
  rules_are_noted (s ∷ ss) [] go none = absurd go
  rules_are_noted (s ∷ ss) (t ∷ ts) go none =
      let one = one_ruled s t go.0 (nil_left s.notes.rules.items (rules_notes ss) none) in
      let rest = rules_are_noted ss ts go.1 (nil_right s.notes.rules.items (rules_notes ss) none) in
      filter_map-append origin_asked (gained (m.log s.fetcher) (m.log t.fetcher)) (all_gained m (fetchers_of ss) (fetchers_of ts))
      ∙ (ap (λ (us : List Text). us ++ origins_asked (all_gained m (fetchers_of ss) (fetchers_of ts))) one
      ∙ (ap (λ (us : List Text). origins t.notes.rules.items ++ us) rest ∙ sym (map-append (λ (note : RulesNote). note.origin) t.notes.rules.items (rules_notes ts))))

  pub all_told : (ss ts : List (Seat F B)) → AllGo m plan ss ts → page_notes ss ≡ [] → All (IsPageOfSite (SomeSays m (fetchers_of ss) (fetchers_of ts)) plan) (page_notes ts)
  all_told [] [] go none = All-nil (IsPageOfSite (SomeSays m [] []) plan)
  all_told [] (t ∷ ts) go none = absurd go
  all_told (s ∷ ss) [] go none = absurd go
  all_told (s ∷ ss) (t ∷ ts) go none =
      let may = SomeSays m (fetchers_of (s ∷ ss)) (fetchers_of (t ∷ ts)) in
      let here = nil_left s.notes.pages.items (page_notes ss) none in
      let asked = one_noted s t go.0 here in
      let told : All (IsPageOfSite (m.says (m.site s.fetcher)) plan) t.notes.pages.items =
      subst (λ (notes : List (PageNote B)). All (IsPageOfSite (m.says (m.site s.fetcher)) plan) notes) (sym (fresh s.notes.pages.items go.0.pages t.notes.pages.items go.0.pages_are here)) go.0.told in
      let among : All (λ (note : PageNote B). Contains (pages_asked (gained (m.log s.fetcher) (m.log t.fetcher))) note.address) t.notes.pages.items =
      subst (λ (us : List Text). All (λ (note : PageNote B). Contains us note.address) t.notes.pages.items) (sym asked) (named_all (λ (note : PageNote B). note.address) t.notes.pages.items) in
      All-append (IsPageOfSite may plan) t.notes.pages.items (page_notes ts)
      (all_both (λ (note : PageNote B). Contains (pages_asked (gained (m.log s.fetcher) (m.log t.fetcher))) note.address) (IsPageOfSite (m.says (m.site s.fetcher)) plan) (IsPageOfSite may plan) t.notes.pages.items
      (λ note c h. told_more (m.says (m.site s.fetcher)) may plan note (λ x body said. inl (page_in (gained (m.log s.fetcher) (m.log t.fetcher)) note.address c, said)) h) among told)
      (All-weaker (IsPageOfSite (SomeSays m (fetchers_of ss) (fetchers_of ts)) plan) (IsPageOfSite may plan)
      (λ note h. told_more (SomeSays m (fetchers_of ss) (fetchers_of ts)) may plan note (λ x body said. inr said) h) (page_notes ts)
      (all_told ss ts go.1 (nil_right s.notes.pages.items (page_notes ss) none)))

  pub all_ruled : (ss ts : List (Seat F B)) → AllGo m plan ss ts → rules_notes ss ≡ [] → All (AreRulesOfSite (SomeRules m (fetchers_of ss) (fetchers_of ts))) (rules_notes ts)
  all_ruled [] [] go none = All-nil (AreRulesOfSite (SomeRules m [] []))
  all_ruled [] (t ∷ ts) go none = absurd go
  all_ruled (s ∷ ss) [] go none = absurd go
  all_ruled (s ∷ ss) (t ∷ ts) go none =
      let may = SomeRules m (fetchers_of (s ∷ ss)) (fetchers_of (t ∷ ts)) in
      let here = nil_left s.notes.rules.items (rules_notes ss) none in
      let asked = one_ruled s t go.0 here in
      let told : All (AreRulesOfSite (m.rules (m.site s.fetcher))) t.notes.rules.items =
      subst (λ (notes : List RulesNote). All (AreRulesOfSite (m.rules (m.site s.fetcher))) notes) (sym (fresh s.notes.rules.items go.0.sets t.notes.rules.items go.0.sets_are here)) go.0.ruled in
      let among : All (λ (note : RulesNote). Contains (origins_asked (gained (m.log s.fetcher) (m.log t.fetcher))) note.origin) t.notes.rules.items =
      subst (λ (us : List Text). All (λ (note : RulesNote). Contains us note.origin) t.notes.rules.items) (sym asked) (named_all (λ (note : RulesNote). note.origin) t.notes.rules.items) in
      All-append (AreRulesOfSite may) t.notes.rules.items (rules_notes ts)
      (all_both (λ (note : RulesNote). Contains (origins_asked (gained (m.log s.fetcher) (m.log t.fetcher))) note.origin) (AreRulesOfSite (m.rules (m.site s.fetcher))) (AreRulesOfSite may) t.notes.rules.items
      (λ note c h. ruled_more (m.rules (m.site s.fetcher)) may note (λ r said. inl (rules_in (gained (m.log s.fetcher) (m.log t.fetcher)) note.origin c, said)) h) among told)
      (All-weaker (AreRulesOfSite (SomeRules m (fetchers_of ss) (fetchers_of ts))) (AreRulesOfSite may)
      (λ note h. ruled_more (SomeRules m (fetchers_of ss) (fetchers_of ts)) may note (λ r said. inr said) h) (rules_notes ts)
      (all_ruled ss ts go.1 (nil_right s.notes.rules.items (rules_notes ss) none)))

  pub crew_later : (old new : List F) (ss ts : List (Seat F B)) → fetchers_of ss ≡ old → new ≡ fetchers_of ts → AllGo m plan ss ts → AreLater m old new
  crew_later old new ss ts from to go = rw (← from, to) (all_later ss ts go)

  pub crew_noted : (old new : List F) (ss ts : List (Seat F B)) (pages : List (PageNote B)) (sets : List RulesNote) → fetchers_of ss ≡ old → new ≡ fetchers_of ts
      → page_notes ss ≡ [] → rules_notes ss ≡ [] → pages ≡ page_notes ts → sets ≡ rules_notes ts → AllGo m plan ss ts
      → AreNoted (SomeSays m old new) (SomeRules m old new) plan (all_gained m old new) pages sets
  crew_noted old new ss ts pages sets from to no_pages no_sets pages_is sets_is go = rw (← from, to, pages_is, sets_is) record {
    pages = subst (λ (us : List Text). IsPermutation us (addresses (page_notes ts))) (sym (pages_are_noted ss ts go no_pages)) (IsPermutation-refl (addresses (page_notes ts)));
    rules = subst (λ (us : List Text). IsPermutation us (origins (rules_notes ts))) (sym (rules_are_noted ss ts go no_sets)) (IsPermutation-refl (origins (rules_notes ts)));
    told = all_told ss ts go no_pages;
    ruled = all_ruled ss ts go no_sets;
  }

  -- what a line says of a worker's notes it says of the asks of its fetcher
  own_line : (n : ℕ) (s t : Seat F B) → SeatGoes m plan s t → s.number ≡ n → s.notes.pages.items ≡ [] → s.notes.rules.items ≡ [] → (event : Event)
      → IsNotedBy t.notes.pages.items t.notes.rules.items event → IsOwn n (gained (m.log s.fetcher) (m.log t.fetcher)) event
  own_line n s t go number no_pages no_sets (line.Opened u) h = tt
  own_line n s t go number no_pages no_sets (line.Page w u) h = λ among.
      let own : All (λ (note : PageNote B). note.worker ≡ s.number) t.notes.pages.items =
      subst (λ (notes : List (PageNote B)). All (λ (note : PageNote B). note.worker ≡ s.number) notes) (sym (fresh s.notes.pages.items go.pages t.notes.pages.items go.pages_are no_pages)) go.own in
      let there : Contains (addresses t.notes.pages.items) u = subst (λ (us : List Text). Contains us u) (one_noted s t go no_pages) among in
      worker_is (λ (note : PageNote B). note.address) (λ (note : PageNote B). note.worker) t.notes.pages.items u w s.number there h own ∙ number
  own_line n s t go number no_pages no_sets (line.Rules w o) h = λ among.
      let own : All (λ (note : RulesNote). note.worker ≡ s.number) t.notes.rules.items =
      subst (λ (notes : List RulesNote). All (λ (note : RulesNote). note.worker ≡ s.number) notes) (sym (fresh s.notes.rules.items go.sets t.notes.rules.items go.sets_are no_sets)) go.own_sets in
      let there : Contains (origins t.notes.rules.items) o = subst (λ (os : List Text). Contains os o) (one_ruled s t go no_sets) among in
      worker_is (λ (note : RulesNote). note.origin) (λ (note : RulesNote). note.worker) t.notes.rules.items o w s.number there h own ∙ number
  own_line n s t go number no_pages no_sets (line.Answer w u) h = tt
  own_line n s t go number no_pages no_sets (line.Ruled w o) h = tt
  own_line n s t go number no_pages no_sets (line.Spread d u k) h = tt
  own_line n s t go number no_pages no_sets (line.Part d u k) h = tt
  own_line n s t go number no_pages no_sets (line.Abandon w u) h = tt
  own_line n s t go number no_pages no_sets (line.AbandonRules w o) h = tt
  own_line n s t go number no_pages no_sets (line.Stop cause) h = tt

  all_own : (n : ℕ) (ss ts : List (Seat F B)) → AllGo m plan ss ts → ((k : ℕ) (d : Seat F B) → k < length ss → (get_or ss k d).number ≡ n + k)
      → page_notes ss ≡ [] → rules_notes ss ≡ [] → (trace : List Event) → AreNotedBy (page_notes ts) (rules_notes ts) trace → AreOwn m n (fetchers_of ss) (fetchers_of ts) trace
  all_own n [] ts go numbers no_pages no_sets trace noted = tt
  all_own n (s ∷ ss) [] go numbers no_pages no_sets trace noted = absurd go
  all_own n (s ∷ ss) (t ∷ ts) go numbers no_pages no_sets trace noted =
      let pages = t.notes.pages.items in
      let sets = t.notes.rules.items in
      let first : s.number ≡ n + 0 = numbers zero s (omega arith) in
      let line_own : (event : Event) → IsNotedBy (page_notes (t ∷ ts)) (rules_notes (t ∷ ts)) event → IsOwn n (gained (m.log s.fetcher) (m.log t.fetcher)) event = λ event h.
      own_line n s t go.0 (omega (arith, first)) (nil_left s.notes.pages.items (page_notes ss) no_pages) (nil_left s.notes.rules.items (rules_notes ss) no_sets) event
      (noted_left pages (page_notes ts) sets (rules_notes ts) event h) in (
        All-weaker (IsNotedBy (page_notes (t ∷ ts)) (rules_notes (t ∷ ts))) (IsOwn n (gained (m.log s.fetcher) (m.log t.fetcher))) line_own trace noted,
        all_own (suc n) ss ts go.1 (λ k d lt. let next : (get_or ss k d).number ≡ n + suc k = numbers (suc k) d (omega (arith, lt)) in omega (arith, next))
            (nil_right s.notes.pages.items (page_notes ss) no_pages) (nil_right s.notes.rules.items (rules_notes ss) no_sets) trace
            (All-weaker (IsNotedBy (page_notes (t ∷ ts)) (rules_notes (t ∷ ts))) (IsNotedBy (page_notes ts) (rules_notes ts)) (λ event h. noted_right pages (page_notes ts) sets (rules_notes ts) event h) trace noted),
      )

  pub crew_own : (old new : List F) (ss ts : List (Seat F B)) (pages : List (PageNote B)) (sets : List RulesNote) → fetchers_of ss ≡ old → new ≡ fetchers_of ts → AreNumbered ss
      → page_notes ss ≡ [] → rules_notes ss ≡ [] → pages ≡ page_notes ts → sets ≡ rules_notes ts → AllGo m plan ss ts
      → (trace : List Event) → AreNotedBy pages sets trace → AreOwn m 0 old new trace
  crew_own old new ss ts pages sets from to numbers no_pages no_sets pages_is sets_is go trace noted =
      let noted' : AreNotedBy (page_notes ts) (rules_notes ts) trace =
      subst (λ (xs : List (PageNote B)). AreNotedBy xs (rules_notes ts) trace) pages_is (subst (λ (xs : List RulesNote). AreNotedBy pages xs trace) sets_is noted) in
      rw (← from, to) (all_own 0 ss ts go (λ k d lt. omega (arith, numbers k d lt)) no_pages no_sets trace noted')

-- there are as many seats as fetchers
pub seated : {F B : Type 0} (seats : List (Seat F B)) (fetchers : List F) → fetchers_of seats ≡ fetchers → length seats ≡ length fetchers
seated {F = F} {B = B} seats fetchers is = sym (length-map seats (λ (seat : Seat F B). seat.fetcher)) ∙ ap (λ (fs : List F). length fs) is
