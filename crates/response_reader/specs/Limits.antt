-- How long a response may be.
use Rattle.std.specs.Prelude.{ℕ, ◌*◌, max, min}
use Rattle.response_reader.specs.declared.limits.TheConstants.{LONGEST_BODY, MAX_BODY, MAX_RESPONSE}
use Rattle.response_reader.specs.declared.limits.Limits.{Limits}

-- the most bytes of a body, and of a response
pub record Limited : Type 0 where
  pub body : ℕ
  pub response : ℕ

-- what limits say
abbrev pub limited : Limits → Limited
limited limits = record { body = limits.body; response = limits.response }

-- the usual limits, which hold for all that isn't read with others
abbrev pub standard : Limited
standard = record { body = MAX_BODY; response = MAX_RESPONSE }

-- the limits by which a body has so many bytes at most
abbrev pub limits_of : ℕ → Limited
limits_of most = record { body = min most LONGEST_BODY; response = max (4 * min most LONGEST_BODY) MAX_RESPONSE }
