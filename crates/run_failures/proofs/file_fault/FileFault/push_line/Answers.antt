-- The clause has the parts of the line in other brackets.
use Rattle.std.proofs.Common.{append_assoc}
use Rattle.run_failures.proofs.file_fault.FileFault.push_line.Goals as goal

pub returns-in-Named : goal.returns-in-Named
returns-in-Named c = record { ok = rw c.in-Named.is (simp append_assoc c.writeln.ensures.bytes) }

pub returns-in-Memory : goal.returns-in-Memory
returns-in-Memory c = record { ok = rw c.in-Memory.is c.writeln-in-Memory.ensures.bytes }
