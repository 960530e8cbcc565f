-- What the status and the body of an answer say of an origin's rules (RFC 9309, section 2.3.1).
use Rattle.std.specs.Prelude.{ℕ, ◌&&◌, nat_le, Bool, true, false, List, [], if◌then◌else◌}
use Rattle.robots_rules.specs.Access.{RuleSetValue}
use Rattle.robots_rules.specs.Groups.{rules_in}
use Rattle.fetcher.specs.Statuses.{is_successful}
use Rattle.answer_notes.specs.declared.robots_answer.TheConstants.{MAX_REDIRECTS, FIRST_SERVER_ERROR, LAST_SERVER_ERROR}

-- everything is allowed
abbrev pub all_allowed : RuleSetValue
all_allowed = record { closed = false; rules = [] }

-- nothing is allowed
abbrev pub none_allowed : RuleSetValue
none_allowed = record { closed = true; rules = [] }

-- a status that says that the server failed (RFC 9110, section 15.6)
abbrev pub is_server_error : ℕ → Bool
is_server_error status = nat_le FIRST_SERVER_ERROR status && nat_le status LAST_SERVER_ERROR

-- the rules by the status and the body of the last answer (RFC 9309, sections 2.3.1.1, 2.3.1.3 and 2.3.1.4)
unfoldable pub rules_by_status : ℕ → List ℕ → RuleSetValue
rules_by_status status file =
    if is_successful status then rules_in file
    else (if is_server_error status then none_allowed else all_allowed)

-- how many redirects are followed (RFC 9309, section 2.3.1.2)
abbrev pub max_redirects : ℕ
max_redirects = MAX_REDIRECTS
