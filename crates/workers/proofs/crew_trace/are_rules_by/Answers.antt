-- What is found is the only note of its name; if nothing is found there is none.
use Rattle.std.proofs.Common.{ℕ, Result, rules, None, ap, subst, refl}
use Rattle.std.specs.Cmp.Lexicographic.{slice_cmp}
use Rattle.std.specs.List.Sorted.{IsBinarySearchResult}
use Rattle.std.specs.Ordering.{nat_cmp}
use Rattle.std.specs.Result.{is_ok}
use Rattle.std.proofs.lemmas.Map.Lookups.{exact_bytes}
use Rattle.std.proofs.lemmas.Fn.{always_returns_same}
use Rattle.workers.specs.declared.note.RulesNote.{RulesNote}
use Rattle.workers.proofs.ApartLaws.{absent_named}
use Rattle.workers.proofs.TakerLaws.{found_by, by_none}
use Rattle.workers.proofs.crew_trace.are_rules_by.Goals as goal

pub returns-in-Ok : goal.returns-in-Ok
returns-in-Ok c =
    let notes = c.args.notes.now in
    let u = c.args.origin.now in
    let found = c.binary_search_by.ensures.position (λ (x : RulesNote). slice_cmp nat_cmp x.origin u) (always_returns_same _ _ _ (λ a r f' k. search rules)) in
    let there = subst (λ (r : Result ℕ ℕ). IsBinarySearchResult (λ (x : RulesNote). slice_cmp nat_cmp x.origin u) notes r) c.in-Ok.is found in
    found_by (λ (x : RulesNote). x.origin) (λ (x : RulesNote). x.worker) notes u c.in-Ok.k c.args.worker c.index-notes-k.result c.requires (search rules) (λ d. exact_bytes _ _ (there d))

pub returns-in-Err : goal.returns-in-Err
returns-in-Err c =
    let u = c.args.origin.now in
    let found = c.binary_search_by.ensures.position (λ (x : RulesNote). slice_cmp nat_cmp x.origin u) (always_returns_same _ _ _ (λ a r f' k. search rules)) in
    let none = absent_named (λ (x : RulesNote). x.origin) c.args.notes.now u c.binary_search_by.result (ap is_ok c.in-Err.is) c.requires found (record { worker = 0; origin = c.args.origin.now; rules = None }) in
    ((λ _. by_none (λ (x : RulesNote). x.origin) (λ (x : RulesNote). x.worker) c.args.notes.now u c.args.worker none), λ _. refl)
