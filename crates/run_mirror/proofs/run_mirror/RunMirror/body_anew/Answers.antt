use Rattle.std.proofs.Common.{◌∙◌, sym}
use Rattle.kept_bodies.specs.declared.body_kind.BodyKind.TheVariants as kinds
use Rattle.run_mirror.proofs.PageLaws.{answered}
use Rattle.run_mirror.proofs.run_mirror.RunMirror.body_anew.Goals as goal

pub returns-in_ok-page-in-Html : goal.returns-in_ok-page-in-Html
returns-in_ok-page-in-Html c =
    answered c.args.self.now c.args.address.now c.args.kind kinds.Html c.args.file.now c.args.body.now c.in_ok-page-in-Html.page (sym c.in-Html.is ∙ c.kind_read.ensures) c.in_ok-page-in-Html.ensures

pub returns-in_ok-sheet-in-Sheet : goal.returns-in_ok-sheet-in-Sheet
returns-in_ok-sheet-in-Sheet c =
    answered c.args.self.now c.args.address.now c.args.kind kinds.Sheet c.args.file.now c.args.body.now c.in_ok-sheet-in-Sheet.sheet (sym c.in-Sheet.is ∙ c.kind_read.ensures) c.in_ok-sheet-in-Sheet.ensures
