-- So it is of those so far.
use Rattle.std.proofs.Common.{◌≡◌, ◌<◌, ℕ, false, get_or}
use Rattle.address.specs.Address.{AddressText}
use Rattle.fetcher.specs.declared.outcome.Outcome.{Outcome}
use Rattle.mirror_upkeep.specs.Sure.{is_open}
use Rattle.mirror_upkeep.proofs.sureness.are_answered.Given as goal

abbrev pub invariant-loop-outcome : goal.invariant-loop-outcome
invariant-loop-outcome l = (k : ℕ) (d : AddressText × Outcome) → k < l.outcome-index → is_open (get_or l.records k d).1 ≡ false
