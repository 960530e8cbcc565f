-- Statuses of responses: successes and redirects (RFC 9110, section 15).
use Rattle.std.specs.Prelude.{ℕ, Bool, ◌&&◌, ◌==◌, nat_le}
use Rattle.std.specs.List.{list_any}
use Rattle.fetcher.specs.declared.status.TheConstants.{FIRST_SUCCESS, LAST_SUCCESS, REDIRECTS}

-- a status of success (RFC 9110, section 15.3)
abbrev pub is_successful : ℕ → Bool
is_successful status = nat_le FIRST_SUCCESS status && nat_le status LAST_SUCCESS

-- a status that redirects (RFC 9110, sections 15.4.2 to 15.4.9)
abbrev pub is_redirect : ℕ → Bool
is_redirect status = list_any (λ redirect. status == redirect) REDIRECTS
