-- How long an origin is left alone before it is asked again (RFC 9110, section 10.2.3; GNU Wget manual, option `--waitretry`).
use Rattle.std.specs.Prelude.{ℕ, ◌+◌, ◌-◌, ◌*◌, ◌^◌, ◌&&◌, nat_lt, List, [], ◌∷◌, length, Option, Some, None, option_map, option_and_then, unwrap_or, min, if◌then◌else◌}
use Rattle.std.specs.List.{list_all}
use Rattle.std.specs.Option.{option_or}
use Rattle.std.specs.Char.{is_ascii_digit}
use Rattle.std.specs.Str.Parse.{digits_value}
use Rattle.httpdate.specs.Date.{parse_secs}
use Rattle.answer_notes.specs.HopChains.{HopValue}
use Rattle.answer_notes.specs.declared.received.Received.{Received}
use Rattle.answer_notes.specs.declared.received.Received.TheVariants.{Whole, Fault}
use Rattle.pacing.specs.Retries.{Retried}

-- the seconds that digits say; more than 64 bits can say are as many as they can
abbrev pub seconds_in : List ℕ → Option ℕ
seconds_in value =
    if nat_lt 0 (length value) && list_all is_ascii_digit value then Some (min (digits_value 10 value) (2 ^ 64 - 1)) else None

-- the seconds that are left until a date, and none after it, if the time is known; both are in seconds since 1970
abbrev pub seconds_until : Option ℕ → ℕ → Option ℕ
seconds_until now date = option_map (λ time. date - time) now

-- the seconds that a Retry-After says at a time: digits, or a date in one of three formats (RFC 9110, sections 5.6.7 and 10.2.3). What
-- has no such form says none
unfoldable pub seconds_after : Option ℕ → List ℕ → Option ℕ
seconds_after now value = option_or (seconds_in value) (option_and_then (seconds_until now) (parse_secs value))

-- the seconds that what was received says at a time
abbrev pub retry_after_seconds : Option ℕ → Received → Option ℕ
retry_after_seconds now (Whole response) = option_and_then (seconds_after now) response.head.retry_after
retry_after_seconds now (Fault kind) = None

-- The nanoseconds before the next try: those of the seconds that `Retry-After` said, or else of 1, 2, 3 and so on; never more than the
-- longest pause
abbrev pub pause_of : Retried → ℕ → Option ℕ → ℕ
pause_of retries made seconds = min (unwrap_or seconds (made + 1) * 1_000_000_000) retries.wait

-- those after this was received
abbrev pub pause_before : Retried → ℕ → Option ℕ → Received → ℕ
pause_before retries made now received = pause_of retries made (retry_after_seconds now received)

-- those after a response with this Retry-After, if it has one
abbrev pub pause_after : Retried → ℕ → Option ℕ → Option (List ℕ) → ℕ
pause_after retries made now said = pause_of retries made (option_and_then (seconds_after now) said)

-- the same of a robots file: the last of its hops counts
abbrev pub pause_before_hops : Retried → ℕ → Option ℕ → List HopValue → ℕ
pause_before_hops retries made now [] = 0
pause_before_hops retries made now (hop ∷ []) = pause_before retries made now hop.1
pause_before_hops retries made now (hop ∷ next ∷ more) = pause_before_hops retries made now (next ∷ more)
