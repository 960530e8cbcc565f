-- The outcomes that the lines of a harvest contain are those of its records, so the exit status is the same by either.
use Rattle.std.proofs.Common.{◌≡◌, ◌⊎◌, ℕ, Bool, true, false, cond, List, Option, Some, None, map, refl, sym, ap, ◌∙◌, subst}
use Rattle.std.specs.Prelude.{Contains}
use Rattle.std.specs.List.{list_any}
use Rattle.std.proofs.lemmas.Bool.{false≢true}
use Rattle.std.proofs.lemmas.List.Folds.{Any-from_list_any, list_any_at}
use Rattle.std.proofs.lemmas.List.Sorted.{Contains-permutation}
use Rattle.fetcher.specs.Outcomes.{is_fault}
use Rattle.fetcher.specs.declared.outcome.Outcome.{Outcome}
use Rattle.frontier_core.specs.Tables.{Text, lookup, keys, IsOnce}
use Rattle.frontier_core.specs.Machine.{State, Slot, outcome_in}
use Rattle.frontier_core.specs.Readers.{Recorded, entry_of}
use Rattle.frontier_core.specs.Views.{condition_of}
use Rattle.harvest.specs.Entries.{Seen, seen_of, seen_in, said_by, is_refused, recorded_addresses, IsPlaceOf}
use Rattle.harvest.specs.Gathered.{AreEntries, AreRecords}
use Rattle.harvest.specs.Harvests.{Harvested}
use Rattle.harvest.specs.declared.entry.HarvestEntry.{HarvestEntry}
use Rattle.report.specs.Entries.{fate_at, line_with, line_at, harvest_lines_of}
use Rattle.report.specs.ExitStatus.{is_network_fault, exit_status, outcome_of, outcomes_in}
use Rattle.report.specs.Report.{Line, Fate, Asked, Refused, is_failed}
use Rattle.report.proofs.HarvestLaws.{Answers, answered, unanswered, at_place, fate_from, by_rules, by_record, line_is}
use Rattle.report.proofs.ListLaws.{to_map, from_map, to_given, from_given}
use Rattle.report.proofs.TableLaws.{found_stands}

-- ---- tests over lists with the same elements

any_more : {X : Type 0} (test : X → Bool) (xs ys : List X) → ((x : X) → Contains xs x → Contains ys x) → list_any test xs ≡ true → list_any test ys ≡ true
any_more test xs ys all h =
    let (k, x, lt, at, holds) = Any-from_list_any test xs h in
    let (j, lj, is) = all x (k, lt, at) in
    list_any_at test ys j x lj (ap test is ∙ holds)

any_alike : {X : Type 0} (test : X → Bool) (xs ys : List X) → ((x : X) → Contains xs x → Contains ys x) → ((x : X) → Contains ys x → Contains xs x) → list_any test xs ≡ list_any test ys
any_alike test xs ys there back = go (list_any test xs) (list_any test ys) refl refl
  where
    go : (a b : Bool) → list_any test xs ≡ a → list_any test ys ≡ b → list_any test xs ≡ list_any test ys
    go true b e f = e ∙ sym (any_more test xs ys there e)
    go false true e f = absurd (false≢true (sym e ∙ any_more test ys xs back f))
    go false false e f = e ∙ sym f

status_alike : (xs ys : List Outcome) → ((x : Outcome) → Contains xs x → Contains ys x) → ((x : Outcome) → Contains ys x → Contains xs x) → exit_status xs ≡ exit_status ys
status_alike xs ys there back =
    let lost = any_alike is_network_fault xs ys there back in
    let faulty = any_alike is_fault xs ys there back in
    let failing = any_alike is_failed xs ys there back in
    ap (λ (t : Bool). cond t 4 (cond (list_any is_fault xs) 7 (cond (list_any is_failed xs) 8 0))) lost
    ∙ ap (λ (t : Bool). cond (list_any is_network_fault ys) 4 (cond t 7 (cond (list_any is_failed xs) 8 0))) faulty
    ∙ ap (λ (t : Bool). cond (list_any is_network_fault ys) 4 (cond (list_any is_fault ys) 7 (cond t 8 0))) failing

-- ---- the outcomes of a harvest

-- what a line contains was recorded
told_recorded : {B : Type 0} (h : Harvested B) (names : List (List ℕ)) → AreEntries h → (x : Outcome) → Contains (outcomes_in (harvest_lines_of h names)) x → Contains (map (λ (recorded : Recorded). recorded.1) h.records) x
told_recorded h names are x among =
    let (line, there, is) = from_given (λ (line : Line). outcome_of line.fate) (harvest_lines_of h names) x among in
    let (e, stands, gives) = from_given (line_at h names) h.entries line there in
    let said = line_is h names e _ line gives in
    let (k, lt, at) = stands in
    let placed = subst (λ (z : HarvestEntry). IsPlaceOf h.records z.address z.answer) at (are.places k e lt) in
    elim (fate_from h.records e.address e.refused e.answer line.fate placed said.fate) [
      | by_rules shut f ↦ (let none : None ≡ Some x = sym (ap outcome_of f) ∙ is in cc)
      | by_record y held f ↦ (let alike : Some y ≡ Some x = sym (ap outcome_of f) ∙ is in let same : y ≡ x = cc in
          subst (λ (z : Outcome). Contains (map (λ (recorded : Recorded). recorded.1) h.records) z) same (to_map (λ (recorded : Recorded). recorded.1) h.records (e.address, y) held))
    ]

-- the fate of an entry whose outcome is recorded
recorded_fate : {B : Type 0} (h : Harvested B) → AreRecords h → IsOnce (keys h.state.entries) → (u : Text) (x : Outcome) → Contains h.records (u, x) → (refused : Bool) (place : Option ℕ)
    → refused ≡ false → IsPlaceOf h.records u place → fate_at h.records refused place ≡ Some (Asked x)
recorded_fate h records once u x among true place free placed = absurd (false≢true (sym free))
recorded_fate h records once u x among false None free placed = absurd (placed (to_map (λ (r : Recorded). r.0) h.records (u, x) among))
recorded_fate h records once u x among false (Some i) free (y, is) =
    let one = answered h records once u x among in
    let other = answered h records once u y (at_place h.records i (u, y) is) in
    let slots : Some one.slot ≡ Some other.slot = sym one.found ∙ other.found in
    let slot : one.slot ≡ other.slot = cc in
    let outcomes : Some y ≡ Some x = sym other.outcome ∙ ap (λ (z : Slot). outcome_in z.progress) (sym slot) ∙ one.outcome in
    let same : y ≡ x = cc in
    rw is (ap (λ (z : Outcome). Some (Asked z)) same)

-- what is recorded is in a line
recorded_told : {B : Type 0} (h : Harvested B) (names : List (List ℕ)) → AreEntries h → AreRecords h → IsOnce (keys h.state.entries) → (u : Text) (x : Outcome) → Contains h.records (u, x) → Contains (outcomes_in (harvest_lines_of h names)) x
recorded_told h names are records once u x among =
    let said = answered h records once u x among in
    let seen = Contains-permutation (seen_in h.state) (map said_by h.entries) (u, said.slot.depth, is_refused (condition_of said.slot.progress)) are.same
    (to_map (λ (entry : Text × Slot). seen_of (entry_of entry)) h.state.entries (u, said.slot) (found_stands h.state.entries u said.slot said.found)) in
    let (e, there, says) = from_map said_by h.entries _ seen in
    let named : e.address ≡ u = ap (λ (z : Seen). z.0) says in
    let (k, lt, at) = there in
    let placed = subst (λ (v : Text). IsPlaceOf h.records v e.answer) named (subst (λ (z : HarvestEntry). IsPlaceOf h.records z.address z.answer) at (are.places k e lt)) in
    let fate = recorded_fate h records once u x among e.refused e.answer (free said (ap (λ (z : Seen). z.2) says)) placed in
    to_given (λ (line : Line). outcome_of line.fate) (harvest_lines_of h names) (line_with h names e (Asked x)) x
    (to_given (line_at h names) h.entries e _ there (rw fate refl)) refl
  where
    free : {refused : Bool} → (said : Answers h.state u x) → refused ≡ is_refused (condition_of said.slot.progress) → refused ≡ false
    free said is = is ∙ go (is_refused (condition_of said.slot.progress)) refl
      where
        go : (b : Bool) → is_refused (condition_of said.slot.progress) ≡ b → is_refused (condition_of said.slot.progress) ≡ false
        go true shut = let no : None ≡ Some x = sym (unanswered said.slot.progress shut) ∙ said.outcome in cc
        go false e = e

-- the exit status is the same by the records as by the lines
pub same_status : {B : Type 0} (h : Harvested B) (names : List (List ℕ)) → AreEntries h → AreRecords h → IsOnce (keys h.state.entries)
    → exit_status (map (λ recorded. recorded.1) h.records) ≡ exit_status (outcomes_in (harvest_lines_of h names))
same_status h names are records once =
    status_alike (map (λ (recorded : Recorded). recorded.1) h.records) (outcomes_in (harvest_lines_of h names))
    (λ x among. let (r, there, is) = from_map (λ (recorded : Recorded). recorded.1) h.records x among in
    subst (λ (z : Outcome). Contains (outcomes_in (harvest_lines_of h names)) z) is (recorded_told h names are records once r.0 r.1 there))
    (told_recorded h names are)
