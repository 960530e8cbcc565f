-- The redirects and the statuses of the standards once more, so that a wrong one doesn't check.
use Rattle.std.proofs.Common.{◌≡◌, refl}
use Rattle.answer_notes.specs.declared.robots_answer.TheConstants.{MAX_REDIRECTS, FIRST_SERVER_ERROR, LAST_SERVER_ERROR}

-- RFC 9309, section 2.3.1.2
redirects : MAX_REDIRECTS ≡ 5
redirects = refl

-- RFC 9110, section 15.6
server_errors : (FIRST_SERVER_ERROR ≡ 500) × (LAST_SERVER_ERROR ≡ 599)
server_errors = (refl, refl)
