use Rattle.std.proofs.Common.{rules, sym, ◌∙◌, None}
use Rattle.std.specs.Cmp.Lexicographic.{slice_cmp}
use Rattle.std.specs.Ordering.{nat_cmp}
use Rattle.std.proofs.lemmas.Fn.{always_returns_same}
use Rattle.workers.specs.declared.note.RulesNote.{RulesNote}
use Rattle.workers.proofs.ApartLaws.{absent_named}
use Rattle.workers.proofs.ComparisonLaws.{found_named}
use Rattle.workers.proofs.comparison.is_origin_noted.Goals as goal

pub returns-clause-found : goal.returns-clause-found
returns-clause-found c so =
    let found = c.binary_search_by.ensures.position (λ (x : RulesNote). slice_cmp nat_cmp x.origin c.args.origin.now) (always_returns_same _ _ _ (λ a r f' k. search rules)) in
    found_named (λ (x : RulesNote). x.origin) c.args.notes.now c.args.origin.now c.binary_search_by.result (sym c.is_ok.ensures.value ∙ so) c.binary_search_by.ensures.bound found
    (record { worker = 0; origin = c.args.origin.now; rules = None })

pub returns-clause-absent : goal.returns-clause-absent
returns-clause-absent c up missed =
    let found = c.binary_search_by.ensures.position (λ (x : RulesNote). slice_cmp nat_cmp x.origin c.args.origin.now) (always_returns_same _ _ _ (λ a r f' k. search rules)) in
    absent_named (λ (x : RulesNote). x.origin) c.args.notes.now c.args.origin.now c.binary_search_by.result (sym c.is_ok.ensures.value ∙ missed) up found
    (record { worker = 0; origin = c.args.origin.now; rules = None })
