-- A page's answer goes after the others.
use Rattle.std.proofs.Common.{refl, arith, rules}
use Rattle.std.proofs.lemmas.Result.{err_from_is_err_and}
use Rattle.answer_notes.specs.declared.noted.Noted.TheVariants.{Page}
use Rattle.site_records.specs.EntryLines.{page}
use Rattle.site_records.specs.Entries.{HasBytes}
use Rattle.site_records.specs.WrittenEntries.{note_entry}
use Rattle.site_records.proofs.EntryLaws.{refused_answer, without_bytes, takes, page_states}
use Rattle.site_records.proofs.NoteLaws.{read_as_told}
use Rattle.site_records.proofs.reading.RecordReading.add_page.Goals as goal

pub returns-in_err-at : goal.returns-in_err-at
returns-in_err-at c =
    let p = err_from_is_err_and c.from_residual.result c.from_residual.ensures.1 in
    rw (p.1, p.2) (refused_answer c.args.self.now (page c.args.text.now c.args.count) c.args.behind.now _ (λ k. k) c.in_err-at.ensures)

pub returns-in_default : goal.returns-in_default
returns-in_default c = without_bytes c.args.self.now (page c.args.text.now c.args.count) c.args.behind.now c.in_ok-at.ensures.0 c.in_default.ensures

pub returns-in_err-received : goal.returns-in_err-received
returns-in_err-received c =
    let p = err_from_is_err_and c.from_residual-in_err-received.result c.from_residual-in_err-received.ensures.1 in
    rw (p.1, p.2) tt

pub returns-in_err-keep : goal.returns-in_err-keep
returns-in_err-keep c =
    let p = err_from_is_err_and c.from_residual-in_err-keep.result c.from_residual-in_err-keep.ensures.1 in
    rw (p.1, p.2) tt

pub returns : goal.returns
returns c =
    let h = c.in-Some.ensures in
    let a = c.in-Some.bytes-is in
    let b = c.in-Some.after-is in
    let has : HasBytes c.args.behind.now c.args.count c.in-Some.bytes.now c.in-Some.after.now = first_of (assumption h, search (rules, h), grind (arith, h, a, b)) in
    let (named, same, _) = c.in_ok-at.ensures in
    let at = c.in_ok-at.at in
    let told = c.in_ok-received.received in
    takes c.args.self.now c.keep.new.self (page c.args.text.now c.args.count) c.args.behind.now _ (note_entry c.args.self.now.links (Page at told)) named tt
    (page_states c.args.self.now.links c.args.text.now c.args.count c.args.behind.now c.in-Some.bytes.now c.in-Some.after.now at _ has (read_as_told c.args.self.now.links at c.in-Some.bytes.now told c.in_ok-received.ensures) same)
    c.in_ok-keep.ensures refl
