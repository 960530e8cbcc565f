use Rattle.std.proofs.Common.{◌↔◌, length}
use Rattle.entry_lines.specs.Lines.{ArePlain}
use Rattle.entry_lines.proofs.lines.is_plain.Given as goal

abbrev pub invariant-loop-rest : goal.invariant-loop-rest
invariant-loop-rest l = ArePlain l.entry ↔ ArePlain l.rest

abbrev pub decreases-loop-rest : goal.decreases-loop-rest
decreases-loop-rest l = length l.rest
