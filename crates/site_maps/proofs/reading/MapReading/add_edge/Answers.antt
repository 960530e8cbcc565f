-- An edge line adds to its page.
use Rattle.std.proofs.Common.{Some, refl, ap, ◌∙◌, []}
use Rattle.std.proofs.lemmas.Result.{err_from_is_err_and}
use Rattle.std.proofs.lemmas.List.Elements.{All-head}
use Rattle.site_maps.specs.Lines.{edge}
use Rattle.site_inputs.specs.Names.{IsNamed}
use Rattle.site_maps.proofs.ReadingLaws.{takes_edge, unnamed}
use Rattle.site_maps.proofs.reading.MapReading.add_edge.Goals as goal

pub returns-in_err-target-in-Some-Page : goal.returns-in_err-target-in-Some-Page
returns-in_err-target-in-Some-Page c = λ above t.
    let text = c.args.text.now in
    let was = c.in-Some-Page.is ∙ ap Some c.in-Some-Page.field-0-is in
    let p = err_from_is_err_and c.from_residual.result c.from_residual.ensures.1 in
    rw (p.1, p.2) (unnamed above (edge c.args.kind text) text _ (t.answers.above_open (c.in-Some-Page.above, was)) (λ all. All-head IsNamed text [] all) c.in_err-target-in-Some-Page.ensures)

pub returns-in_err-push-in-Some-Page : goal.returns-in_err-push-in-Some-Page
returns-in_err-push-in-Some-Page c = λ above t.
    let was = c.in-Some-Page.is ∙ ap Some c.in-Some-Page.field-0-is in
    let p = err_from_is_err_and c.from_residual-in_err-push-in-Some-Page.result c.from_residual-in_err-push-in-Some-Page.ensures.1 in
    rw (p.1, p.2) (t.answers.above_open (c.in-Some-Page.above, was))

pub returns-in_ok-push-in-Some-Page : goal.returns-in_ok-push-in-Some-Page
returns-in_ok-push-in-Some-Page c = λ above t.
    let was = c.in-Some-Page.is ∙ ap Some c.in-Some-Page.field-0-is in
    takes_edge c.args.self.now _ above c.args.kind c.args.text.now c.in_ok-target-in-Some-Page.target c.in-Some-Page.above _ t
    c.in_ok-target-in-Some-Page.ensures was refl refl refl c.in_ok-push-in-Some-Page.ensures.items refl refl
