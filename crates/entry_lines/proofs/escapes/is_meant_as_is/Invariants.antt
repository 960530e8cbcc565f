use Rattle.std.proofs.Common.{◌≡◌, length}
use Rattle.entry_lines.specs.Escapes.{read_back}
use Rattle.entry_lines.proofs.escapes.is_meant_as_is.Given as goal

abbrev pub invariant-loop-rest : goal.invariant-loop-rest
invariant-loop-rest l = read_back l.rest ≡ l.rest → read_back l.bytes ≡ l.bytes

abbrev pub decreases-loop-rest : goal.decreases-loop-rest
decreases-loop-rest l = length l.rest
