-- How a run treats servers.
use Rattle.std.specs.Prelude.{ℕ, ◌+◌, ◌*◌, ◌/◌, ◌%◌, Bool, false, Option, Some, None, min, option_map, if◌then◌else◌}
use Rattle.std.specs.Duration.{as_nanos}
use Rattle.pacing.specs.declared.manner.Family.{Family}
use Rattle.pacing.specs.declared.manner.Family.TheVariants.{Any}
use Rattle.pacing.specs.declared.manner.Manner.{Manner}
use Rattle.pacing.specs.declared.span.TheConstants.{MAX_SPAN}

-- the pause between the beginnings of two requests to an origin, whether it varies, the limits of a host's look-up, of a connection's
-- making, of a read or a write and of a whole answer, all in nanoseconds, the most bytes of a body that goes to a file, how many bytes a second may be read, whether an origin's robots file
-- may lengthen the pause, and which addresses of a host are connected to
pub record Mannered : Type 0 where
  pub wait : ℕ
  pub is_random : Bool
  pub lookup_limit : Option ℕ
  pub connect_limit : Option ℕ
  pub read_limit : Option ℕ
  pub answer_limit : Option ℕ
  pub body_limit : ℕ
  pub rate : Option ℕ
  pub crawl_delay : Bool
  pub family : Family

-- what is said of how a run treats servers
abbrev pub mannered : Manner → Mannered
mannered manner = record {
  wait = as_nanos manner.wait;
  is_random = manner.is_random;
  lookup_limit = option_map as_nanos manner.lookup_limit;
  connect_limit = option_map as_nanos manner.connect_limit;
  read_limit = option_map as_nanos manner.read_limit;
  answer_limit = option_map as_nanos manner.answer_limit;
  body_limit = manner.body_limit;
  rate = manner.rate;
  crawl_delay = manner.crawl_delay;
  family = manner.family;
}

-- nothing is waited for, bytes are read as fast as they come, reads and writes have a limit of 900 seconds (GNU Wget manual, option `--read-timeout`), and bodies that go to
-- files one of 2^40 bytes
abbrev pub usual : Mannered
usual = record {
  wait = 0;
  is_random = false;
  lookup_limit = None;
  connect_limit = None;
  read_limit = Some (900 * 1_000_000_000);
  answer_limit = None;
  body_limit = 1_099_511_627_776;
  rate = None;
  crawl_delay = false;
  family = Any;
}

-- from a half of a pause to three halves of it, by a random number (GNU Wget manual, option `--random-wait`)
abbrev pub varied : ℕ → ℕ → ℕ
varied pause random = pause / 2 + random % (pause + 1)

-- the pause after the beginning of a request, given a random number; 365 days are the longest
abbrev pub pause_by : Manner → ℕ → ℕ
pause_by manner random =
    if manner.is_random then varied (min (as_nanos manner.wait) MAX_SPAN) random else min (as_nanos manner.wait) MAX_SPAN
