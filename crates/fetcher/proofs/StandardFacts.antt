-- The statuses of RFC 9110, section 15, once more, so that a wrong one doesn't check.
use Rattle.std.proofs.Common.{◌≡◌, List, [], ◌∷◌, refl}
use Rattle.fetcher.specs.declared.status.TheConstants.{FIRST_SUCCESS, LAST_SUCCESS, NOT_FOUND, REDIRECTS}

-- sections 15.3 and 15.4
successes : (FIRST_SUCCESS ≡ 200) × (LAST_SUCCESS ≡ 299)
successes = (refl, refl)

-- sections 15.4.2 to 15.4.9
redirects : REDIRECTS ≡ 301 ∷ 302 ∷ 303 ∷ 307 ∷ 308 ∷ []
redirects = refl

-- section 15.5.5
not_found : NOT_FOUND ≡ 404
not_found = refl
