-- The lines of a harvest whose retrieval the quota ended are a front of what is to be found.
use Rattle.std.proofs.Common.{◌≡◌, ◌∙◌, ℕ, true, List, Option, Some, None, IsSome, IsTrue, refl, sym, ap, subst, arith}
use Rattle.std.specs.Prelude.{Contains}
use Rattle.std.proofs.lemmas.Bool.{false≢true}
use Rattle.std.proofs.lemmas.List.Elements.{Contains-get_or}
use Rattle.fetcher.specs.declared.edge.Edge.{Edge}
use Rattle.fetcher.specs.declared.outcome.Outcome.{Outcome}
use Rattle.frontier_core.specs.Invariants.{IsSound, IsClosed, is_cleared}
use Rattle.frontier_core.specs.Tables.{Text, lookup}
use Rattle.frontier_core.specs.Routes.{Policy, Route}
use Rattle.frontier_core.specs.Machine.{State, Slot, Progress, Parked, Waiting, Out, Answered, answers, slot, slot_outcome, outcome_in}
use Rattle.frontier_core.specs.Machine as progress
use Rattle.frontier_core.specs.Views.{condition_of}
use Rattle.harvest.specs.Entries.{is_refused, IsPlaceOf}
use Rattle.harvest.specs.Gathered.{AreEntries, AreRecords}
use Rattle.harvest.specs.Harvests.{Harvested}
use Rattle.harvest.specs.declared.entry.HarvestEntry.{HarvestEntry}
use Rattle.report.specs.Report.{Line, Fate, Asked, Refused}
use Rattle.report.specs.Entries.{fate_at, line_at, harvest_lines_of}
use Rattle.report.proofs.ListLaws.{from_given}
use Rattle.report.proofs.HarvestLaws.{Holds, held, answered, fate_from, by_rules, by_record, line_is, ascending_lines, length-harvest_lines_of}
use Rattle.retriever.specs.Site.{IsFate, AreFrontLines}
use Rattle.retriever.proofs.FoundLaws.{Came, told, came_line}

-- ---- what became of an address

-- what robots rules are said to refuse they refuse
shut_is : (q : Progress) → is_refused (condition_of q) ≡ true → q ≡ progress.Refused
shut_is Parked shut = absurd (false≢true shut)
shut_is Waiting shut = absurd (false≢true shut)
shut_is (Out holder) shut = absurd (false≢true shut)
shut_is (Answered x turn) shut = absurd (false≢true shut)
shut_is progress.Refused shut = refl

-- what was answered was requested
told_cleared : (q : Progress) (x : Outcome) → outcome_in q ≡ Some x → IsTrue (is_cleared q)
told_cleared Parked x is = cc
told_cleared Waiting x is = refl
told_cleared (Out holder) x is = refl
told_cleared (Answered y turn) x is = refl
told_cleared progress.Refused x is = cc

refused_fate : (p : Policy) (s : State) → IsClosed p s → (u : Text) (e : Slot) → lookup s.entries u ≡ Some e → is_refused (condition_of e.progress) ≡ true → IsFate p (answers s) u Refused
refused_fate p s closed u e found shut = (closed.refused u e.depth (found ∙ ap (λ (q : Progress). Some (slot e.depth q)) (shut_is e.progress shut))).0

asked_fate : (p : Policy) (s : State) → IsClosed p s → (u : Text) (e : Slot) (x : Outcome) → lookup s.entries u ≡ Some e → outcome_in e.progress ≡ Some x → IsFate p (answers s) u (Asked x)
asked_fate p s closed u e x found is = (closed.cleared u e found (told_cleared e.progress x is), ap slot_outcome found ∙ is)

-- ---- the lines

-- what a line says is so by what is recorded
front_line : {B : Type 0} (p : Policy) (h : Harvested B) (names : List (List ℕ)) → AreEntries h → AreRecords h → IsSound p h.state → IsClosed p h.state → (line : Line) → Contains (harvest_lines_of h names) line
    → ((route : List Edge) × Route p (answers h.state) route line.address line.depth) × IsFate p (answers h.state) line.address line.fate
front_line p h names are records sound closed line among =
    let m = answers h.state in
    let (e, there, is) = from_given (line_at h names) h.entries line among in
    let said = line_is h names e _ line is in
    let stands = held h are sound.addresses e there in
    let (k, lt, at) = there in
    let placed = subst (λ (z : HarvestEntry). IsPlaceOf h.records z.address z.answer) at (are.places k e lt) in
    let (route, walk) = sound.routes e.address stands.slot stands.found in (
      (route, subst (λ (u : Text). Route p m route u line.depth) said.address (subst (λ (n : ℕ). Route p m route e.address n) (stands.depth ∙ said.depth) walk)),
      subst (λ (u : Text). IsFate p m u line.fate) said.address (fate e stands said.fate placed),
    )
  where
    fate : (e : HarvestEntry) → Holds h.state e.address e.depth e.refused → fate_at h.records e.refused e.answer ≡ Some line.fate → IsPlaceOf h.records e.address e.answer
        → IsFate p (answers h.state) e.address line.fate
    fate e stands is placed =
        elim (fate_from h.records e.address e.refused e.answer line.fate placed is) [
          | by_rules shut f ↦ subst (λ (z : Fate). IsFate p (answers h.state) e.address z) (sym f)
              (refused_fate p h.state closed e.address stands.slot stands.found (stands.refused ∙ shut))
          | by_record x among f ↦ (let said = answered h records sound.addresses e.address x among in
              subst (λ (z : Fate). IsFate p (answers h.state) e.address z) (sym f) (asked_fate p h.state closed e.address said.slot x said.found said.outcome))
        ]

-- what is recorded is held, and was answered
stood : (o : Option Slot) → IsSome (slot_outcome o) → (e : Slot) × (o ≡ Some e) × Came e.progress
stood None some = absurd (false≢true some)
stood (Some e) some = (e, refl, go e.progress some)
  where
    go : (q : Progress) → IsSome (outcome_in q) → Came q
    go Parked some = absurd (false≢true some)
    go Waiting some = absurd (false≢true some)
    go (Out holder) some = absurd (false≢true some)
    go (Answered x turn) some = told x refl refl
    go progress.Refused some = absurd (false≢true some)

pub are_front_lines : {B : Type 0} (p : Policy) (h : Harvested B) (names : List (List ℕ)) → AreEntries h → AreRecords h → IsSound p h.state → IsClosed p h.state
    → AreFrontLines p (answers h.state) (harvest_lines_of h names)
are_front_lines p h names are records sound closed = record {
  ascending = ascending_lines h names are;
  each = λ k d lt. front_line p h names are records sound closed _ (Contains-get_or (harvest_lines_of h names) k d lt);
  all = λ u some.
      let (slot, found, came) = stood (lookup h.state.entries u) some in
      let (line, there, named) = came_line h names are records u slot found came in
      let (k, lt, at) = there in
      (k, line, lt, at, named);
  few = omega (arith, length-harvest_lines_of h names are, sound.few);
}
