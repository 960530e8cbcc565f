-- The lines of a harvest that is complete for a whole site are those of the site.
use Rattle.std.proofs.Common.{◌≡◌, ℕ, ◌≤◌, Bool, true, false, List, Option, Some, None, IsSome, IsTrue, length, map, refl, sym, ap, subst, ◌∙◌, arith}
use Rattle.std.specs.Prelude.{Contains}
use Rattle.std.specs.List.{filter_map}
use Rattle.std.proofs.lemmas.Bool.{false≢true}
use Rattle.std.proofs.lemmas.List.Elements.{Contains-get_or}
use Rattle.std.proofs.lemmas.List.Sorted.{Contains-permutation}
use Rattle.fetcher.specs.declared.outcome.Outcome.{Outcome}
use Rattle.frontier_core.specs.Tables.{Text, lookup, keys, IsOnce}
use Rattle.frontier_core.specs.Routes.{Policy, Answers, IsDepth, is_open_address}
use Rattle.frontier_core.specs.Machine.{State, Slot, Progress, Parked, Waiting, Out, Answered, Due, Offered, answers, slot_outcome, outcome_in, is_done, IsQuiet}
use Rattle.frontier_core.specs.Machine as progress
use Rattle.frontier_core.specs.Readers.{Recorded, entry_of, record_of}
use Rattle.frontier_core.specs.Views.{condition_of}
use Rattle.harvest.specs.Entries.{Seen, seen_of, seen_in, said_by, is_refused, IsPlaceOf, recorded_addresses}
use Rattle.harvest.specs.Gathered.{AreEntries, AreRecords}
use Rattle.harvest.specs.Harvests.{Harvested}
use Rattle.workers.specs.Sites.{IsCompleteFor}
use Rattle.harvest.specs.declared.entry.HarvestEntry.{HarvestEntry}
use Rattle.report.specs.Report.{Line, Fate, Asked, Refused}
use Rattle.report.specs.Entries.{fate_at, name_among, line_at, harvest_lines_of}
use Rattle.retriever.specs.Mirrored.{AreRecordsOf}
use Rattle.retriever.specs.Site.{IsFate, AreLines}
use Rattle.report.proofs.TableLaws.{found_stands}
use Rattle.report.proofs.ListLaws.{to_map, from_map, to_given, from_given}
use Rattle.report.proofs.HarvestLaws.{Holds, held, answered, unanswered, fate_from, by_rules, by_record, line_is, ascending_lines, length-harvest_lines_of}

some_of : {X : Type 0} (o : Option X) → IsSome o → (x : X) × (o ≡ Some x)
some_of None h = absurd (false≢true h)
some_of (Some x) h = (x, refl)

some_is : {X : Type 0} (o : Option X) (x : X) → o ≡ Some x → IsSome o
some_is o x h = subst IsSome (sym h) refl

not_true : (b : Bool) → (IsTrue b → ⊥) → b ≡ false
not_true true never = absurd (never refl)
not_true false never = refl

-- ---- what became of an address

-- robots rules refuse it, or it was answered
pub data Came (q : Progress) : Type 0 where
  refused : is_refused (condition_of q) ≡ true → outcome_in q ≡ None → Came q
  told : (x : Outcome) → is_refused (condition_of q) ≡ false → outcome_in q ≡ Some x → Came q

came : (q : Progress) → is_done q ≡ true → Came q
came Parked done = absurd (false≢true done)
came Waiting done = absurd (false≢true done)
came (Out holder) done = absurd (false≢true done)
came (Answered x turn) done = told x refl refl
came progress.Refused done = refused refl refl

-- a candidate that wasn't answered isn't open
fate_refused : (p : Policy) (s : State) (whole : Answers) → IsCompleteFor p whole s → (u : Text) (e : Slot) → lookup s.entries u ≡ Some e → outcome_in e.progress ≡ None
    → IsFate p whole u Refused
fate_refused p s whole complete u e found is =
    let none : (answers s).outcome u ≡ None = ap slot_outcome found ∙ is in
    not_true (is_open_address p whole u) (λ opens.
    (let there : IsSome ((answers s).outcome u) = (complete.wanted u).1 ((complete.candidates u).0 (some_is _ e found), opens) in
    false≢true (subst IsSome none there)))

-- what was answered is open, and has the site's outcome
fate_asked : (p : Policy) (s : State) (whole : Answers) → IsCompleteFor p whole s → (u : Text) (e : Slot) (x : Outcome) → lookup s.entries u ≡ Some e → outcome_in e.progress ≡ Some x
    → IsFate p whole u (Asked x)
fate_asked p s whole complete u e x found is =
    let there : (answers s).outcome u ≡ Some x = ap slot_outcome found ∙ is in
    (((complete.wanted u).0 (some_is _ x there)).1, complete.outcomes u x there)

-- ---- the lines

-- what a line says is so of the whole site
line_true : {B : Type 0} (p : Policy) (whole : Answers) (h : Harvested B) (names : List (List ℕ)) → AreEntries h → AreRecords h → IsOnce (keys h.state.entries) → IsCompleteFor p whole h.state
    → (line : Line) → Contains (harvest_lines_of h names) line → IsDepth p whole line.address line.depth × IsFate p whole line.address line.fate
line_true p whole h names are records once complete line among =
    let (e, there, is) = from_given (line_at h names) h.entries line among in
    let said = line_is h names e _ line is in
    let stands = held h are once e there in
    let (k, lt, at) = there in
    let placed = subst (λ (z : HarvestEntry). IsPlaceOf h.records z.address z.answer) at (are.places k e lt) in (
      subst (λ (u : Text). IsDepth p whole u line.depth) said.address
          (subst (λ (n : ℕ). IsDepth p whole e.address n) (stands.depth ∙ said.depth) (complete.depths e.address stands.slot stands.found)),
      subst (λ (u : Text). IsFate p whole u line.fate) said.address (fate e stands said.fate placed),
    )
  where
    fate : (e : HarvestEntry) → Holds h.state e.address e.depth e.refused → fate_at h.records e.refused e.answer ≡ Some line.fate → IsPlaceOf h.records e.address e.answer
        → IsFate p whole e.address line.fate
    fate e stands is placed =
        elim (fate_from h.records e.address e.refused e.answer line.fate placed is) [
          | by_rules shut f ↦ subst (λ (z : Fate). IsFate p whole e.address z) (sym f)
              (fate_refused p h.state whole complete e.address stands.slot stands.found (unanswered stands.slot.progress (stands.refused ∙ shut)))
          | by_record x among f ↦ (let said = answered h records once e.address x among in
              subst (λ (z : Fate). IsFate p whole e.address z) (sym f) (fate_asked p h.state whole complete e.address said.slot x said.found said.outcome))
        ]

-- an entry of which something became has a line
has_line : {B : Type 0} (h : Harvested B) (names : List (List ℕ)) (e : HarvestEntry) (fate : Fate) → Contains h.entries e → fate_at h.records e.refused e.answer ≡ Some fate
    → Contains (harvest_lines_of h names) (record { address = e.address; depth = e.depth; fate = fate; name = name_among h.kept names e.address })
has_line h names e fate there is = to_given (line_at h names) h.entries e _ there (rw is refl)

-- something became of each entry that was answered or that robots rules refuse
something : {B : Type 0} (h : Harvested B) → AreEntries h → AreRecords h → (e : HarvestEntry) → Contains h.entries e → (slot : Slot) → lookup h.state.entries e.address ≡ Some slot
    → is_refused (condition_of slot.progress) ≡ e.refused → Came slot.progress → (fate : Fate) × (fate_at h.records e.refused e.answer ≡ Some fate)
something h are records e there slot found refusal came =
    elim came [
      | refused shut none ↦ (Refused, ap (λ (b : Bool). fate_at h.records b e.answer) (sym refusal ∙ shut))
      | told x free is ↦ (let (k, lt, at) = there in
          let recorded = Contains-permutation (filter_map record_of h.state.entries) h.records (e.address, x) records.same
          (to_given record_of h.state.entries (e.address, slot) (e.address, x) (found_stands h.state.entries e.address slot found) (rw is refl)) in
          by_place e.answer e.refused (sym refusal ∙ free) (subst (λ (z : HarvestEntry). IsPlaceOf h.records z.address z.answer) at (are.places k e lt))
          (to_map (λ (r : Recorded). r.0) h.records (e.address, x) recorded))
    ]
  where
    by_place : (place : Option ℕ) (b : Bool) → b ≡ false → IsPlaceOf h.records e.address place → Contains (recorded_addresses h.records) e.address
        → (fate : Fate) × (fate_at h.records b place ≡ Some fate)
    by_place place true free placed among = absurd (false≢true (sym free))
    by_place None false free placed among = absurd (placed among)
    by_place (Some i) false free (x, is) among = (Asked x, rw is refl)

-- an address of which something became has a line
pub came_line : {B : Type 0} (h : Harvested B) (names : List (List ℕ)) → AreEntries h → AreRecords h → (u : Text) (slot : Slot) → lookup h.state.entries u ≡ Some slot → Came slot.progress → (line : Line) × Contains (harvest_lines_of h names) line × (line.address ≡ u)
came_line h names are records u slot found came =
    let stands = found_stands h.state.entries u slot found in
    let seen = Contains-permutation (seen_in h.state) (map said_by h.entries) (u, slot.depth, is_refused (condition_of slot.progress)) are.same
    (to_map (λ (entry : Text × Slot). seen_of (entry_of entry)) h.state.entries (u, slot) stands) in
    let (e, there, is) = from_map said_by h.entries _ seen in
    let named : e.address ≡ u = ap (λ (z : Seen). z.0) is in
    let (fate, became) = something h are records e there slot (subst (λ (v : Text). lookup h.state.entries v ≡ Some slot) (sym named) found) (sym (ap (λ (z : Seen). z.2) is)) came in
    (record { address = e.address; depth = e.depth; fate = fate; name = name_among h.kept names e.address }, has_line h names e fate there became, named)

-- a candidate of the whole site has a line
candidate_line : {B : Type 0} (h : Harvested B) (names : List (List ℕ)) → AreEntries h → AreRecords h → IsQuiet h.state → (u : Text) (slot : Slot) → lookup h.state.entries u ≡ Some slot
    → (line : Line) × Contains (harvest_lines_of h names) line × (line.address ≡ u)
candidate_line h names are records quiet u slot found =
    let (k, lt, at) = found_stands h.state.entries u slot found in
    let done = subst (λ (z : Text × Slot). is_done z.1.progress ≡ true) at (quiet.entries k (u, slot) lt) in
    came_line h names are records u slot found (came slot.progress done)

-- the records of a harvest are those of its state
pub records_of : {B : Type 0} (h : Harvested B) → AreRecords h → IsOnce (keys h.state.entries) → AreRecordsOf (answers h.state) h.records
records_of h records once = record { ascending = records.ascending; same = λ u x. (there u x, back u x (lookup h.state.entries u) refl) }
  where
    there : (u : Text) (x : Outcome) → Contains h.records (u, x) → (answers h.state).outcome u ≡ Some x
    there u x among = let said = answered h records once u x among in ap slot_outcome said.found ∙ said.outcome

    back : (u : Text) (x : Outcome) (o : Option Slot) → lookup h.state.entries u ≡ o → (answers h.state).outcome u ≡ Some x → Contains h.records (u, x)
    back u x None found is = let none : None ≡ Some x = sym (ap slot_outcome found) ∙ is in cc
    back u x (Some slot) found is =
        let told : outcome_in slot.progress ≡ Some x = sym (ap slot_outcome found) ∙ is in
        Contains-permutation (filter_map record_of h.state.entries) h.records (u, x) records.same
        (to_given record_of h.state.entries (u, slot) (u, x) (found_stands h.state.entries u slot found) (rw told refl))

pub are_lines : {B : Type 0} (p : Policy) (whole : Answers) (h : Harvested B) (names : List (List ℕ)) → AreEntries h → AreRecords h → IsOnce (keys h.state.entries) → length h.state.entries ≤ p.max_urls
    → IsCompleteFor p whole h.state → IsQuiet h.state → AreLines p whole (harvest_lines_of h names)
are_lines p whole h names are records once few complete quiet = record {
  ascending = ascending_lines h names are;
  each = λ k d lt. line_true p whole h names are records once complete _ (Contains-get_or (harvest_lines_of h names) k d lt);
  all = λ u candidate.
      let (slot, found) = some_of (lookup h.state.entries u) ((complete.candidates u).1 candidate) in
      let (line, there, named) = candidate_line h names are records quiet u slot found in
      let (k, lt, at) = there in
      (k, line, lt, at, named);
  few = omega (arith, length-harvest_lines_of h names are, few);
}
