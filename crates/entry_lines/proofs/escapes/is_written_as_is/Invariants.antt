use Rattle.std.proofs.Common.{◌≡◌, length}
use Rattle.entry_lines.specs.Escapes.{escaped}
use Rattle.entry_lines.proofs.escapes.is_written_as_is.Given as goal

abbrev pub invariant-loop-rest : goal.invariant-loop-rest
invariant-loop-rest l = escaped l.rest ≡ l.rest → escaped l.bytes ≡ l.bytes

abbrev pub decreases-loop-rest : goal.decreases-loop-rest
decreases-loop-rest l = length l.rest
