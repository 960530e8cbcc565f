-- When requests are made again, as the options say it (GNU Wget manual, chapter Download Options).
use Rattle.std.specs.Prelude.{◌-◌, ◌*◌, ◌^◌, ◌==◌, ◌&&◌, ℕ, Option, Some, None, List, bytes_eq, codes, map, nat_lt, option_and_then, option_map, if◌then◌else◌}
use Rattle.std.specs.Option.{option_map_or}
use Rattle.clap.specs.Walk.{Row, Text, first_of}
use Rattle.follow_filters.specs.Levels.{number_in}
use Rattle.pacing.specs.Retries.{Retried}
use Rattle.pacing.specs.Spans.{span_in}
use Rattle.options.specs.Given.{is_set, list_of}
use Rattle.options.specs.declared.retries.Status.{Status}

-- how often a request is repeated if it is made this often; 0 is no limit, which is the greatest number
abbrev pub again_of : ℕ → ℕ
again_of tries = if tries == 0 then 2 ^ 32 - 1 else tries - 1

-- the same of a number as it is written: digits, or `inf`
unfoldable pub read_tries : Text → Option ℕ
read_tries text = if bytes_eq text (codes "inf") then Some (2 ^ 32 - 1) else option_map again_of (number_in text)

-- the same of a value; a request isn't made again if the option isn't given
unfoldable pub again_by : Option Text → Option ℕ
again_by value = option_map_or read_tries value (Some 0)

-- the longest pause before a request is made again, 10 seconds if the option isn't given
unfoldable pub longest_by : Option Text → Option ℕ
longest_by value = option_map_or span_in value (Some (10 * 1_000_000_000))

-- a number that a status may have (RFC 9110, section 15)
abbrev pub status_of : ℕ → Option Status
status_of code = if nat_lt 99 code && nat_lt code 1_000 then Some (record { code = code }) else None

-- a status as it is written
unfoldable pub read_status : Text → Option Status
read_status text = option_and_then status_of (number_in text)

-- what the options say of when requests are made again; nothing if a value can't be
unfoldable pub retries_of : List Row → Option Retried
retries_of found =
    option_and_then (λ most. option_and_then (λ wait. option_map (λ (statuses : List Status). record {
      most = most;
      wait = wait;
      refused = is_set (codes "retry-connrefused") found;
      unknown = is_set (codes "retry-on-host-error") found;
      statuses = map (λ (status : Status). status.code) statuses;
    })
    (list_of read_status (codes "retry-on-http-error") found))
    (longest_by (first_of (codes "waitretry") found)))
    (again_by (first_of (codes "tries") found))
