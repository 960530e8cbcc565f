-- Each test over the records is the definition's over their outcomes.
use Rattle.std.proofs.Common.{◌≡◌, ℕ, Bool, true, false, cond, List, [], ◌∷◌, ◌||◌, map, refl, sym, ap, ◌∙◌, rules, tests}
use Rattle.std.specs.List.{list_any}
use Rattle.std.proofs.lemmas.Iterator.{YieldsList-from_slice}
use Rattle.std.proofs.lemmas.Iterator.Search.{any_from_yields_List}
use Rattle.fetcher.specs.Outcomes.{is_fault}
use Rattle.fetcher.specs.declared.outcome.Outcome.{Outcome}
use Rattle.frontier_core.specs.Readers.{Recorded}
use Rattle.report.specs.ExitStatus.{is_network_fault, exit_status}
use Rattle.report.specs.Report.{is_failed}
use Rattle.report.proofs.status.exit_status.Goals as goal

any_mapped : (test : Outcome → Bool) (records : List Recorded) → list_any test (map (λ recorded. recorded.1) records) ≡ list_any (λ recorded. test recorded.1) records
any_mapped test [] = refl
any_mapped test (recorded ∷ records) = ap (λ (b : Bool). test recorded.1 || b) (any_mapped test records)

by_tests : (records : List Recorded) (a b c : Bool) → a ≡ list_any (λ recorded. is_network_fault recorded.1) records → b ≡ list_any (λ recorded. is_fault recorded.1) records
    → c ≡ list_any (λ recorded. is_failed recorded.1) records → cond a 4 (cond b 7 (cond c 8 0)) ≡ exit_status (map (λ recorded. recorded.1) records)
by_tests records a b c first second third =
    ap (λ (t : Bool). cond t 4 (cond b 7 (cond c 8 0))) (first ∙ sym (any_mapped is_network_fault records))
    ∙ ap (λ (t : Bool). cond (list_any is_network_fault (map (λ recorded. recorded.1) records)) 4 (cond t 7 (cond c 8 0))) (second ∙ sym (any_mapped is_fault records))
    ∙ ap (λ (t : Bool). cond (list_any is_network_fault (map (λ recorded. recorded.1) records)) 4 (cond (list_any is_fault (map (λ recorded. recorded.1) records)) 7 (cond t 8 0)))
    (third ∙ sym (any_mapped is_failed records))

pub returns-then-any : goal.returns-then-any
returns-then-any g c =
    let records = c.args.harvest.now.records in
    let lost = any_from_yields_List (λ (recorded : Recorded). is_network_fault recorded.1) _ _ _ c.any.ensures.ran (YieldsList-from_slice records (c.iter.ensures.rest ∙ c.records-records.ensures.value)) (λ x b q k. search (rules, tests)) in
    by_tests records true _ _ (sym c.if-any.true ∙ lost) refl refl

pub returns-then-any-2 : goal.returns-then-any-2
returns-then-any-2 g c =
    let records = c.args.harvest.now.records in
    let lost = any_from_yields_List (λ (recorded : Recorded). is_network_fault recorded.1) _ _ _ c.any.ensures.ran (YieldsList-from_slice records (c.iter.ensures.rest ∙ c.records-records.ensures.value)) (λ x b q k. search (rules, tests)) in
    let faulty = any_from_yields_List (λ (recorded : Recorded). is_fault recorded.1) _ _ _ c.any-else-any.ensures.ran (YieldsList-from_slice records (c.iter-else-any.ensures.rest ∙ c.records-records.ensures.value)) (λ x b q k. search (rules, tests)) in
    by_tests records false true _ (sym c.if-any.false ∙ lost) (sym c.if-any-2.true ∙ faulty) refl

pub returns-then-any-3 : goal.returns-then-any-3
returns-then-any-3 g c =
    let records = c.args.harvest.now.records in
    let lost = any_from_yields_List (λ (recorded : Recorded). is_network_fault recorded.1) _ _ _ c.any.ensures.ran (YieldsList-from_slice records (c.iter.ensures.rest ∙ c.records-records.ensures.value)) (λ x b q k. search (rules, tests)) in
    let faulty = any_from_yields_List (λ (recorded : Recorded). is_fault recorded.1) _ _ _ c.any-else-any.ensures.ran (YieldsList-from_slice records (c.iter-else-any.ensures.rest ∙ c.records-records.ensures.value)) (λ x b q k. search (rules, tests)) in
    let failing = any_from_yields_List (λ (recorded : Recorded). is_failed recorded.1) _ _ _ c.any-else-any-2.ensures.ran (YieldsList-from_slice records (c.iter-else-any-2.ensures.rest ∙ c.records-records.ensures.value)) (λ x b q k. search (rules, tests)) in
    by_tests records false false true (sym c.if-any.false ∙ lost) (sym c.if-any-2.false ∙ faulty) (sym c.if-any-3.true ∙ failing)

pub returns-else-any-3 : goal.returns-else-any-3
returns-else-any-3 g c =
    let records = c.args.harvest.now.records in
    let lost = any_from_yields_List (λ (recorded : Recorded). is_network_fault recorded.1) _ _ _ c.any.ensures.ran (YieldsList-from_slice records (c.iter.ensures.rest ∙ c.records-records.ensures.value)) (λ x b q k. search (rules, tests)) in
    let faulty = any_from_yields_List (λ (recorded : Recorded). is_fault recorded.1) _ _ _ c.any-else-any.ensures.ran (YieldsList-from_slice records (c.iter-else-any.ensures.rest ∙ c.records-records.ensures.value)) (λ x b q k. search (rules, tests)) in
    let failing = any_from_yields_List (λ (recorded : Recorded). is_failed recorded.1) _ _ _ c.any-else-any-2.ensures.ran (YieldsList-from_slice records (c.iter-else-any-2.ensures.rest ∙ c.records-records.ensures.value)) (λ x b q k. search (rules, tests)) in
    by_tests records false false false (sym c.if-any.false ∙ lost) (sym c.if-any-2.false ∙ faulty) (sym c.if-any-3.false ∙ failing)
