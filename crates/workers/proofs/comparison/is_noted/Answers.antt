use Rattle.std.proofs.Common.{rules, sym, ◌∙◌, None}
use Rattle.std.specs.Cmp.Lexicographic.{slice_cmp}
use Rattle.std.specs.Ordering.{nat_cmp}
use Rattle.std.proofs.lemmas.Fn.{always_returns_same}
use Rattle.workers.specs.declared.note.PageNote.{PageNote}
use Rattle.workers.proofs.ApartLaws.{absent_named}
use Rattle.workers.proofs.ComparisonLaws.{found_named}
use Rattle.workers.proofs.comparison.is_noted.Goals as goal

pub returns-clause-found : goal.returns-clause-found
returns-clause-found g c so =
    let found = c.binary_search_by.ensures.position (λ (x : PageNote g.row.B.Denot). slice_cmp nat_cmp x.address c.args.address.now) (always_returns_same _ _ _ (λ a r f' k. search rules)) in
    found_named (λ (x : PageNote g.row.B.Denot). x.address) c.args.notes.now c.args.address.now c.binary_search_by.result (sym c.is_ok.ensures.value ∙ so) c.binary_search_by.ensures.bound found
    (record { worker = 0; address = c.args.address.now; outcome = None; body = None })

pub returns-clause-absent : goal.returns-clause-absent
returns-clause-absent g c up missed =
    let found = c.binary_search_by.ensures.position (λ (x : PageNote g.row.B.Denot). slice_cmp nat_cmp x.address c.args.address.now) (always_returns_same _ _ _ (λ a r f' k. search rules)) in
    absent_named (λ (x : PageNote g.row.B.Denot). x.address) c.args.notes.now c.args.address.now c.binary_search_by.result (sym c.is_ok.ensures.value ∙ missed) up found
    (record { worker = 0; address = c.args.address.now; outcome = None; body = None })
