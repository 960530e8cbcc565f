use Rattle.std.proofs.Common.{◌≡◌, ◌++◌, length}
use Rattle.entry_lines.specs.Escapes.{read_back}
use Rattle.entry_lines.proofs.escapes.unescape_each.Given as goal

abbrev pub invariant-loop-rest : goal.invariant-loop-rest
invariant-loop-rest l = l.out.items ++ read_back l.rest ≡ read_back l.bytes

abbrev pub decreases-loop-rest : goal.decreases-loop-rest
decreases-loop-rest l = length l.rest
