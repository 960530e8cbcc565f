use Rattle.std.specs.Prelude.{vec_items}
use Rattle.kept_bodies.specs.declared.body_kind.BodyKind.TheVariants as kinds
use Rattle.run_mirror.proofs.PageLaws.{answer_as, sheet_given}
use Rattle.run_mirror.proofs.run_mirror.RunMirror.sheet_anew.Goals as goal

pub returns-in-Ok : goal.returns-in-Ok
returns-in-Ok c =
    answer_as vec_items kinds.Sheet c.args.self.now c.args.address.now c.args.file.now c.args.body.now c.answer.result c.in-Ok.other c.answer.ensures
    (sheet_given vec_items c.args.self.now c.args.address.now c.args.file.now c.args.body.now c.new-sheet.result c.in-Ok.other c.new-sheet.ensures c.in-Ok.ensures.kept c.in-Ok.ensures.references)
