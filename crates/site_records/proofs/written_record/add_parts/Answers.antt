-- One more part is added.
use Rattle.std.proofs.Common.{◌++◌, ◌∙◌, ◌∷◌, [], List, take, sym, ap, subst, append-nil}
use Rattle.std.proofs.lemmas.Grind.{flat_map-append}
use Rattle.std.specs.Borrow.{Bor}
use Rattle.answer_notes.specs.declared.noted.Noted.{Noted}
use Rattle.site_records.specs.WrittenRecords.{all_noted}
use Rattle.site_records.specs.inner.RecordDrafts.{IsDraft}
use Rattle.site_records.proofs.EntryTextLaws.{taken_more}
use Rattle.site_records.proofs.written_record.add_parts.Goals as goal

pub loop-part-preserved : goal.loop-part-preserved
loop-part-preserved c = λ start.
    let parts = c.args.parts.now in
    let i = c.loop-part.part-index in
    let part = c.part-item.result in
    let more = taken_more parts i part c.loop-part-test.true c.part-item.is in
    let whole = ap all_noted more ∙ flat_map-append (λ (part : Bor (List Noted)). part.now) (take i parts) (part ∷ []) ∙ ap (λ l. all_noted (take i parts) ++ l) (append-nil part.now) in
    subst (IsDraft c.add_notes.new.text c.add_notes.new.named) (sym whole) (c.in_ok-add_notes.ensures (all_noted (take i parts)) (c.loop-part.invariant start))
