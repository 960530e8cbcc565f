-- The maximum depth of a retrieval (GNU Wget manual, option `--level`).
use Rattle.std.specs.Prelude.{Bool, true, nat_le}
use Rattle.follow_filters.specs.declared.limit.Limit.{Limit}
use Rattle.follow_filters.specs.declared.limit.Limit.TheVariants.{AtMost, Unlimited}
use Rattle.follow_filters.specs.declared.limit.TheConstants.{MAX_LEVEL}

-- the limit is at most the greatest number of hops, or there is none
abbrev pub is_in_range : Limit → Bool
is_in_range (AtMost hops) = nat_le hops MAX_LEVEL
is_in_range Unlimited = true
