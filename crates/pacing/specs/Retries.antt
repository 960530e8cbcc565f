-- When a request is made again, as contracts see it.
use Rattle.std.specs.Prelude.{ℕ, Bool, List}
use Rattle.std.specs.Duration.{as_nanos}
use Rattle.pacing.specs.declared.retries.Retries.{Retries as Settings}

-- how often a request is made again at most, the longest pause before it in nanoseconds, whether after a refused connection and after a
-- host without an address, and the statuses after which it is, besides those that demand it
pub record Retried : Type 0 where
  pub most : ℕ
  pub wait : ℕ
  pub refused : Bool
  pub unknown : Bool
  pub statuses : List ℕ

-- what is said of when a request is made again
abbrev pub retries_by : Settings → Retried
retries_by retries = record {
  most = retries.most;
  wait = as_nanos retries.wait;
  refused = retries.refused;
  unknown = retries.unknown;
  statuses = retries.statuses.items;
}
