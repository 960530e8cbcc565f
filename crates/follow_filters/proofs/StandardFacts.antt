-- The limits of a plan are the documented numbers.
use Rattle.std.proofs.Common.{◌≡◌, refl}
use Rattle.follow_filters.specs.declared.limit.TheConstants.{MAX_LEVEL}
use Rattle.follow_filters.specs.declared.plan.TheConstants.{MAX_URLS, MAX_PER_HOST}

-- hops
greatest_level : MAX_LEVEL ≡ 1000000
greatest_level = refl

-- addresses that are held
most_urls : MAX_URLS ≡ 1000000
most_urls = refl

-- requests out to one origin at a time
most_per_host : MAX_PER_HOST ≡ 16
most_per_host = refl
