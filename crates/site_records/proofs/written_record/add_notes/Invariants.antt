-- The notes so far are added.
use Rattle.std.proofs.Common.{◌++◌, List, take}
use Rattle.answer_notes.specs.declared.noted.Noted.{Noted}
use Rattle.site_records.specs.inner.RecordDrafts.{IsDraft}
use Rattle.site_records.proofs.written_record.add_notes.Given as goal

abbrev pub invariant-loop-note : goal.invariant-loop-note
invariant-loop-note l = (notes : List Noted) → IsDraft l.fn.text l.fn.named notes → IsDraft l.text l.named (notes ++ take l.note-index l.more)
