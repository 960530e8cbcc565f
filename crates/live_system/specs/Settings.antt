-- How a worker's fetcher makes its requests, as contracts see it.
use Rattle.std.specs.Prelude.{ℕ, Bool, Option}
use Rattle.pacing.specs.Retries.{Retried}
use Rattle.pacing.specs.declared.manner.Manner.{Manner}
use Rattle.requests.specs.Proxies.{Proxies}
use Rattle.requests.specs.Requests.{Sending}
use Rattle.html_links.specs.declared.rules.LinkRules.{LinkRules}

-- which links of pages are taken, whether answers are noted, how many connections to a server are kept, the proxies,
-- what each request says, how servers are treated, when a request is made again, and whether files get the times of their pages
pub record Settings : Type 0 where
  pub links : LinkRules
  pub is_recording : Bool
  pub kept : Option ℕ
  pub proxies : Proxies
  pub sends : Sending
  pub manner : Manner
  pub retries : Retried
  pub takes_times : Bool
