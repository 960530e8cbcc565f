-- A body may be as long as words can say.
use Rattle.std.proofs.Common.{◌≡◌, refl}
use Rattle.response_reader.specs.declared.limits.TheConstants.{LONGEST_BODY}
use Rattle.pacing.specs.declared.size.TheConstants.{MAX_SIZE}

-- the longest body to which a response can be limited has the most bytes that can be written
longest : LONGEST_BODY ≡ MAX_SIZE
longest = refl
