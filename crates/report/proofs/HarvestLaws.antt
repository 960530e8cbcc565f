-- What the entries of a harvest say is in its frontier's state.
use Rattle.std.proofs.Common.{◌≡◌, ℕ, ◌<◌, ◌≤◌, ◌⊎◌, inl, inr, Bool, true, false, List, Option, Some, None, length, get_or, map, refl, sym, ap, ◌∙◌, subst, arith}
use Rattle.std.specs.Prelude.{Contains, option_map, slice_get}
use Rattle.std.proofs.lemmas.Bool.{cases_lt, false≢true}
use Rattle.std.proofs.lemmas.List.{length-map}
use Rattle.std.proofs.lemmas.List.Sorted.{Contains-permutation, IsPermutation-sym, length_permutation}
use Rattle.std.proofs.lemmas.Option.{slice_get_past, slice_get-get_or}
use Rattle.fetcher.specs.declared.outcome.Outcome.{Outcome}
use Rattle.frontier_core.specs.Tables.{Text, lookup, keys, IsOnce}
use Rattle.frontier_core.specs.Machine.{State, Slot, Progress, Parked, Waiting, Out, Answered, outcome_in}
use Rattle.frontier_core.specs.Machine as progress
use Rattle.frontier_core.specs.Readers.{Recorded, entry_of, record_of, with_outcome}
use Rattle.frontier_core.specs.Views.{condition_of}
use Rattle.harvest.specs.Entries.{seen_of, seen_in, said_by, is_refused, IsPlaceOf, Seen}
use Rattle.harvest.specs.Gathered.{AreEntries, AreRecords}
use Rattle.harvest.specs.Harvests.{Harvested}
use Rattle.address.specs.AddressOrder.{IsBefore}
use Rattle.harvest.specs.declared.entry.HarvestEntry.{HarvestEntry}
use Rattle.report.specs.Report.{Line, Fate, Asked, Refused, AreAscending}
use Rattle.report.specs.Entries.{fate_at, name_among, line_with, line_at, harvest_lines_of}
use Rattle.report.proofs.ListLaws.{to_map, from_map, pairs_map, from_given, pairs_given, length-given}
use Rattle.report.proofs.TableLaws.{found_entry}

-- the slot of an address
pub record Holds (s : State) (u : Text) (d : ℕ) (refusal : Bool) : Type 0 where
  pub slot : Slot
  pub found : lookup s.entries u ≡ Some slot
  pub depth : slot.depth ≡ d
  pub refused : is_refused (condition_of slot.progress) ≡ refusal

-- an element of a table whose keys occur once is found by its key
found_among : (s : State) → IsOnce (keys s.entries) → (t : Text × Slot) → Contains s.entries t → lookup s.entries t.0 ≡ Some t.1
found_among s once t (k, lt, at) = subst (λ (z : Text × Slot). lookup s.entries z.0 ≡ Some z.1) at (found_entry s.entries once k t lt)

pub held : {B : Type 0} (h : Harvested B) → AreEntries h → IsOnce (keys h.state.entries) → (e : HarvestEntry) → Contains h.entries e → Holds h.state e.address e.depth e.refused
held h are once e among =
    let there = Contains-permutation (map said_by h.entries) (seen_in h.state) (said_by e) (IsPermutation-sym _ _ are.same) (to_map said_by h.entries e among) in
    let (t, stands, is) = from_map (λ (entry : Text × Slot). seen_of (entry_of entry)) h.state.entries (said_by e) there in
    record {
      slot = t.1;
      found = subst (λ (u : Text). lookup h.state.entries u ≡ Some t.1) (ap (λ (z : Seen). z.0) is) (found_among h.state once t stands);
      depth = ap (λ (z : Seen). z.1) is;
      refused = ap (λ (z : Seen). z.2) is;
    }

recorded_is : (v : Text) (o : Option Outcome) (u : Text) (x : Outcome) → with_outcome v o ≡ Some (u, x) → (v ≡ u) × (o ≡ Some x)
recorded_is v None u x h = cc
recorded_is v (Some y) u x h = let e : (v, y) ≡ (u, x) = cc in (ap (λ (z : Recorded). z.0) e, ap (λ (z : Recorded). Some z.1) e)

-- what is recorded was answered
pub record Answers (s : State) (u : Text) (x : Outcome) : Type 0 where
  pub slot : Slot
  pub found : lookup s.entries u ≡ Some slot
  pub outcome : outcome_in slot.progress ≡ Some x

pub answered : {B : Type 0} (h : Harvested B) → AreRecords h → IsOnce (keys h.state.entries) → (u : Text) (x : Outcome) → Contains h.records (u, x) → Answers h.state u x
answered h are once u x among =
    let there = Contains-permutation h.records _ (u, x) (IsPermutation-sym _ _ are.same) among in
    let (t, stands, is) = from_given record_of h.state.entries (u, x) there in
    let (at, outcome) = recorded_is t.0 (outcome_in t.1.progress) u x is in
    record {
      slot = t.1;
      found = subst (λ (v : Text). lookup h.state.entries v ≡ Some t.1) at (found_among h.state once t stands);
      outcome = outcome;
    }

-- where the fate of an entry comes from
pub data FateOf (records : List Recorded) (u : Text) (refused : Bool) (fate : Fate) : Type 0 where
  by_rules : refused ≡ true → fate ≡ Refused → FateOf records u refused fate
  by_record : (x : Outcome) → Contains records (u, x) → fate ≡ Asked x → FateOf records u refused fate

-- the place of an entry in the records
pub at_place : (records : List Recorded) (i : ℕ) (r : Recorded) → slice_get records i ≡ Some r → Contains records r
at_place records i r is = go (cases_lt i (length records))
  where
    go : (i < length records) ⊎ (length records ≤ i) → Contains records r
    go (inl lt) = (let same : Some (get_or records i r) ≡ Some r = sym (slice_get-get_or records i r lt) ∙ is in let e : get_or records i r ≡ r = cc in (i, lt, e))
    go (inr past) = (let none : None ≡ Some r = sym (slice_get_past records i past) ∙ is in cc)

pub fate_from : (records : List Recorded) (u : Text) (refused : Bool) (place : Option ℕ) (fate : Fate) → IsPlaceOf records u place → fate_at records refused place ≡ Some fate
    → FateOf records u refused fate
fate_from records u true place fate placed h = by_rules refl cc
fate_from records u false None fate placed h = cc
fate_from records u false (Some i) fate (x, is) h =
    let given : Some (Asked x) ≡ Some fate = rw is at h in
    let same : Asked x ≡ fate = cc in
    by_record x (at_place records i (u, x) is) (sym same)

-- what robots rules refuse was not answered
pub unanswered : (q : Progress) → is_refused (condition_of q) ≡ true → outcome_in q ≡ None
unanswered Parked h = refl
unanswered Waiting h = refl
unanswered (Out holder) h = refl
unanswered (Answered x turn) h = absurd (false≢true h)
unanswered progress.Refused h = refl

-- the parts of a line
pub record IsLineOf {B : Type 0} (h : Harvested B) (names : List (List ℕ)) (e : HarvestEntry) (o : Option Fate) (line : Line) : Type 0 where
  pub address : e.address ≡ line.address
  pub depth : e.depth ≡ line.depth
  pub fate : o ≡ Some line.fate
  pub name : name_among h.kept names line.address ≡ line.name

pub line_is : {B : Type 0} (h : Harvested B) (names : List (List ℕ)) (e : HarvestEntry) (o : Option Fate) (line : Line)
    → option_map (line_with h names e) o ≡ Some line → IsLineOf h names e o line
line_is h names e None line is = cc
line_is h names e (Some fate) line is =
    let same : line_with h names e fate ≡ line = cc in
    let address : e.address ≡ line.address = ap (λ (l : Line). l.address) same in
    record {
      address = address;
      depth = ap (λ (l : Line). l.depth) same;
      fate = ap (λ (l : Line). Some l.fate) same;
      name = ap (λ (u : Text). name_among h.kept names u) (sym address) ∙ ap (λ (l : Line). l.name) same;
    }

pub ascending_lines : {B : Type 0} (h : Harvested B) (names : List (List ℕ)) → AreEntries h → AreAscending (harvest_lines_of h names)
ascending_lines h names are =
    pairs_given (λ (e f : HarvestEntry). IsBefore e.address f.address) (λ (l m : Line). IsBefore l.address m.address) (line_at h names)
    (λ e f l m before left right.
    subst (λ (u : Text). IsBefore l.address u) (line_is h names f _ m right).address (subst (λ (u : Text). IsBefore u f.address) (line_is h names e _ l left).address before))
    h.entries (pairs_map (λ (e : HarvestEntry). e.address) IsBefore h.entries are.ascending)

pub length-harvest_lines_of : {B : Type 0} (h : Harvested B) (names : List (List ℕ)) → AreEntries h → length (harvest_lines_of h names) ≤ length h.state.entries
length-harvest_lines_of h names are =
    omega (
      arith,
      length-given (line_at h names) h.entries,
      length_permutation (seen_in h.state) (map said_by h.entries) are.same,
      length-map h.entries said_by,
      length-map h.state.entries (λ (entry : Text × Slot). seen_of (entry_of entry)),
    )
