use Rattle.std.proofs.Common.{◌≡◌, ap, ◌∙◌}
use Rattle.std.specs.Prelude.{vec_items}
use Rattle.html_links.specs.Links.{Links}
use Rattle.html_links.specs.Scanning.{scanned}
use Rattle.kept_bodies.specs.declared.body_kind.BodyKind.TheVariants as kinds
use Rattle.run_mirror.specs.Anew.{base_at}
use Rattle.run_mirror.proofs.PageLaws.{answer_as, page_by, page_given, page_same, some_held}
use Rattle.run_mirror.proofs.run_mirror.RunMirror.page_anew.Goals as goal

pub returns-in-Ok : goal.returns-in-Ok
returns-in-Ok c =
    answer_as vec_items kinds.Html c.args.self.now c.args.address.now c.args.file.now c.args.body.now c.answer.result c.in-Ok.other c.answer.ensures
    (page_given vec_items c.args.self.now c.args.address.now c.args.file.now c.args.body.now c.in-Some.reading.syntax c.new-page.result c.in-Ok.other
    (c.new-page.ensures ∙ ap (page_by c.args.self.now c.args.file.now) (c.in_ok-base.ensures ∙ ap (λ (found : Links). base_at c.args.address.now found.base) (some_held _ c.in_ok-known.known c.in-Some.reading c.in-Some.is c.in_ok-known.ensures)))
    c.in-Ok.ensures.kept c.in-Ok.ensures.links)

pub returns-then-branch : goal.returns-then-branch
returns-then-branch c =
    let found = some_held _ c.in_ok-known.known c.in-Some.reading c.in-Some.is c.in_ok-known.ensures in
    page_same c.args.self.now c.args.address.now c.args.file.now c.args.body.now c.in-Some.reading.syntax c.new-page.result (scanned c.in-Some.reading.found)
    (c.new-page.ensures ∙ ap (page_by c.args.self.now c.args.file.now) (c.in_ok-base.ensures ∙ ap (λ (found : Links). base_at c.args.address.now found.base) found)) found (c.in_ok-stays.ensures c.if-branch.true)
