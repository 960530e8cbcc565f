-- The numbers of the statuses so far.
use Rattle.std.proofs.Common.{◌≡◌, take}
use Rattle.std.specs.Prelude.{map}
use Rattle.options.specs.declared.retries.Status.{Status}
use Rattle.options.proofs.retries.codes_of.Given as goal

abbrev pub invariant-loop-status : goal.invariant-loop-status
invariant-loop-status l = l.codes.items ≡ map (λ (status : Status). status.code) (take l.status-index l.statuses)
