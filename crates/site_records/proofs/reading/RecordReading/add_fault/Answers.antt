-- A fault goes after the other answers.
use Rattle.std.proofs.Common.{refl}
use Rattle.std.proofs.lemmas.Result.{err_from_is_err_and}
use Rattle.answer_notes.specs.declared.received.Received.TheVariants.{Fault}
use Rattle.answer_notes.specs.declared.noted.Noted.TheVariants.{Page}
use Rattle.site_records.specs.EntryLines.{fault}
use Rattle.site_records.specs.WrittenEntries.{note_entry}
use Rattle.site_records.proofs.EntryLaws.{refused_answer, takes, fault_states}
use Rattle.site_records.proofs.reading.RecordReading.add_fault.Goals as goal

pub returns-in_err-at : goal.returns-in_err-at
returns-in_err-at c =
    let p = err_from_is_err_and c.from_residual.result c.from_residual.ensures.1 in
    rw (p.1, p.2) (refused_answer c.args.self.now (fault c.args.kind c.args.text.now) c.args.behind.now _ (λ k. k) c.in_err-at.ensures)

pub returns-in_err-keep : goal.returns-in_err-keep
returns-in_err-keep c =
    let p = err_from_is_err_and c.from_residual-in_err-keep.result c.from_residual-in_err-keep.ensures.1 in
    rw (p.1, p.2) tt

pub returns : goal.returns
returns c =
    let (named, same, _) = c.in_ok-at.ensures in
    takes c.args.self.now c.keep.new.self (fault c.args.kind c.args.text.now) c.args.behind.now _ (note_entry c.args.self.now.links (Page c.in_ok-at.at (Fault c.args.kind))) named tt
    (fault_states c.args.self.now.links c.args.kind c.args.text.now c.args.behind.now c.in_ok-at.at same) c.in_ok-keep.ensures refl
