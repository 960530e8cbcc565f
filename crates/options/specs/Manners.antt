-- How servers are treated, as the options say it (GNU Wget manual, chapter Download Options).
use Rattle.std.specs.Prelude.{◌*◌, ◌==◌, ◌&&◌, ℕ, Option, Some, None, List, bytes_eq, codes, option_and_then, option_map, if◌then◌else◌}
use Rattle.std.specs.Option.{option_map_or}
use Rattle.clap.specs.Walk.{Row, Text, first_of}
use Rattle.pacing.specs.Manners.{Mannered}
use Rattle.pacing.specs.Rates.{rate_in}
use Rattle.pacing.specs.Sizes.{size_in}
use Rattle.pacing.specs.Spans.{span_in}
use Rattle.pacing.specs.declared.manner.Family.{Family}
use Rattle.pacing.specs.declared.manner.Family.TheVariants.{Any, V4, V6}
use Rattle.options.specs.Given.{is_set}

-- the pause that a value gives, none if the option isn't given; nothing if it is no length of time
unfoldable pub wait_by : Option Text → Option ℕ
wait_by value = option_map_or span_in value (Some 0)

-- 0 is no limit
abbrev pub unless_zero : ℕ → Option ℕ
unless_zero nanos = if nanos == 0 then None else Some nanos

-- a limit as it is written: `inf`, or a length of time
unfoldable pub read_limit : Text → Option (Option ℕ)
read_limit text = if bytes_eq text (codes "inf") then Some None else option_map unless_zero (span_in text)

-- the limit that a value gives, or this one if the option isn't given
abbrev pub limit_by : Option ℕ → Option Text → Option (Option ℕ)
limit_by usual value = option_map_or read_limit value (Some usual)

-- the limit that an option gives, or else `--timeout`, or else this one
unfoldable pub limit_of : Text → Option ℕ → List Row → Option (Option ℕ)
limit_of id usual found =
    option_and_then (λ all. limit_by all (first_of id found)) (limit_by usual (first_of (codes "timeout") found))

-- the most bytes of a body that a value gives, or so many if the option isn't given
abbrev pub body_by : ℕ → Option Text → Option ℕ
body_by usual value = option_map_or size_in value (Some usual)

-- 0 is no limit of speed
abbrev pub rate_unless_zero : ℕ → Option ℕ
rate_unless_zero rate = if rate == 0 then None else Some rate

-- a limit of speed as it is written: `inf`, or bytes a second
unfoldable pub rate_limit : Text → Option (Option ℕ)
rate_limit text = if bytes_eq text (codes "inf") then Some None else option_map rate_unless_zero (rate_in text)

-- the limit of speed that a value gives, none if the option isn't given
abbrev pub rate_by : Option Text → Option (Option ℕ)
rate_by value = option_map_or rate_limit value (Some None)

-- the quota that a value gives, which is written like a limit of speed; none if the option isn't given
abbrev pub quota_by : Option Text → Option (Option ℕ)
quota_by value = rate_by value

-- which addresses of hosts are connected to; both alone can't be
unfoldable pub family_of : List Row → Option Family
family_of found =
    if is_set (codes "inet4-only") found && is_set (codes "inet6-only") found then None
    else if is_set (codes "inet4-only") found then Some V4
    else if is_set (codes "inet6-only") found then Some V6
    else Some Any

-- what the options say of how servers are treated; nothing if a value can't be
unfoldable pub manner_of : List Row → Option Mannered
manner_of found =
    option_and_then (λ wait. option_and_then (λ lookup. option_and_then (λ connect. option_and_then (λ read. option_and_then (λ answer. option_and_then (λ body. option_and_then (λ rate. option_map (λ family. record {
      wait = wait;
      is_random = is_set (codes "random-wait") found;
      lookup_limit = lookup;
      connect_limit = connect;
      read_limit = read;
      answer_limit = answer;
      body_limit = body;
      rate = rate;
      crawl_delay = is_set (codes "crawl-delay") found;
      family = family;
    })
    (family_of found))
    (rate_by (first_of (codes "limit-rate") found)))
    (body_by 1_099_511_627_776 (first_of (codes "max-body") found)))
    (limit_by None (first_of (codes "answer-timeout") found)))
    (limit_of (codes "read-timeout") (Some (900 * 1_000_000_000)) found))
    (limit_of (codes "connect-timeout") None found))
    (limit_of (codes "dns-timeout") None found))
    (wait_by (first_of (codes "wait") found))
