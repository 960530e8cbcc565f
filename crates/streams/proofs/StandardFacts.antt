-- The limit of interrupted calls is the documented number.
use Rattle.std.proofs.Common.{◌≡◌, refl}
use Rattle.streams.specs.declared.interruption.TheConstants.{MAX_INTERRUPTED}

-- the interrupted call at which a reader or a writer counts as failed
last_interruption : MAX_INTERRUPTED ≡ 1000
last_interruption = refl
