-- The clause has the parts of the line in other brackets.
use Rattle.std.proofs.Common.{append_assoc}
use Rattle.report.proofs.trace.push_worker_event.Goals as goal

pub returns : goal.returns
returns c = record { ok = simp append_assoc c.writeln.ensures.bytes }
