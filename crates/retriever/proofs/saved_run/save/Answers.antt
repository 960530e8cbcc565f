-- What the writer answers says how the record is saved.
use Rattle.std.proofs.Common.{◌∙◌, refl, ap}
use Rattle.std.proofs.lemmas.Result.{err_from_is_err_and}
use Rattle.site_records.specs.WrittenRecords.{all_noted, record_text}
use Rattle.retriever.proofs.SavingLaws.{is_saved}
use Rattle.retriever.proofs.saved_run.save.Goals as goal

pub returns-in_err-parts : goal.returns-in_err-parts
returns-in_err-parts g c =
    let p = err_from_is_err_and c.from_residual.result c.from_residual.ensures.1 in
    rw (p.1, p.2) refl

pub returns : goal.returns
returns g c =
    is_saved g.V.Write.contents c.write_record.result c.args.saved.now c.write_record.new.writer _ _
    (ap record_text (ap all_noted c.as_slice.ensures.value ∙ c.in_ok-parts.ensures)) c.write_record.ensures.written c.write_record.ensures.device c.write_record.ensures.memory
