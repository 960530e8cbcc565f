-- The parts so far are added.
use Rattle.std.proofs.Common.{[], take}
use Rattle.site_records.specs.WrittenRecords.{all_noted}
use Rattle.site_records.specs.inner.RecordDrafts.{IsDraft}
use Rattle.site_records.proofs.written_record.add_parts.Given as goal

abbrev pub invariant-loop-part : goal.invariant-loop-part
invariant-loop-part l = IsDraft l.fn.text l.fn.named [] → IsDraft l.text l.named (all_noted (take l.part-index l.parts))
