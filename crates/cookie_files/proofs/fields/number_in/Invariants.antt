-- The number is that of the digits so far, and of the rest.
use Rattle.std.proofs.Common.{◌≡◌, length}
use Rattle.cookie_files.specs.Lines.{number_from}
use Rattle.cookie_files.proofs.fields.number_in.Given as goal

abbrev pub invariant-loop-rest : goal.invariant-loop-rest
invariant-loop-rest l = number_from l.number l.rest ≡ number_from 0 l.text

abbrev pub decreases-loop-rest : goal.decreases-loop-rest
decreases-loop-rest l = length l.rest
