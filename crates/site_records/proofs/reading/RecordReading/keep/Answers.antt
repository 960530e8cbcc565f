-- The answer goes after the others, and its note.
use Rattle.std.proofs.lemmas.Result.{on_ok_weaker, IfOk-from_err}
use Rattle.site_records.proofs.NoteLaws.{keeps_page}
use Rattle.site_records.proofs.reading.RecordReading.keep.Goals as goal

pub returns-in_err-answer : goal.returns-in_err-answer
returns-in_err-answer c = IfOk-from_err _ _ c.from_residual.ensures.0

pub returns : goal.returns
returns c =
    on_ok_weaker c.note.result
    (λ items. keeps_page c.args.self.now c.answer.new.self c.note.new.self c.args.at c.args.received c.requires c.answer.ensures.kept c.in_ok-answer.ensures.answers c.note.ensures.kept items)
    c.note.ensures.notes
