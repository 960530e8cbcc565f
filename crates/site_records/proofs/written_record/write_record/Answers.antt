-- What is written reads back.
use Rattle.site_records.specs.WrittenRecords.{all_noted, written_notes}
use Rattle.site_records.proofs.WrittenRecordLaws.{written_record_reads_back, written_short, written_fresh}
use Rattle.site_records.proofs.OneRecordLaws.{written_record_is_one}
use Rattle.site_records.proofs.CutLaws.{cut_record}
use Rattle.site_records.proofs.written_record.write_record.Goals as goal

pub returns-clause-reads : goal.returns-clause-reads
returns-clause-reads g c = λ links. written_record_reads_back links (all_noted c.args.notes.now) c.in_ok-text.ensures.1.notes_are

pub returns-clause-one : goal.returns-clause-one
returns-clause-one g c = λ links said is. written_record_is_one links (all_noted c.args.notes.now) said c.in_ok-text.ensures.1.notes_are is

pub returns-clause-cut : goal.returns-clause-cut
returns-clause-cut g c = λ links.
    let notes = all_noted c.args.notes.now in
    cut_record links (written_notes notes) c.in_ok-text.ensures.1.notes_are (written_short notes) (written_fresh notes)
