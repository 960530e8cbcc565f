-- What contracts see of a fetcher over TCP.
use Rattle.std.specs.Prelude.{◌≡◌, ℕ, Bool, List, Option, Some, None, if◌then◌else◌}
use Rattle.std.specs.Map.{lookup}
use Rattle.std.specs.Str.{bytes_eq}
use Rattle.address.specs.Address.{AddressText, OriginText}
use Rattle.answer_notes.specs.HopChains.{ChainValue, rules_of_hops}
use Rattle.robots_rules.specs.Access.{RuleSetValue}
use Rattle.requests.specs.Requests.{Sending}
use Rattle.fetcher.specs.declared.fetcher.Ask.{Ask}
use Rattle.fetcher.specs.declared.outcome.Outcome.{Outcome}
use Rattle.fetcher.specs.declared.fetcher.Ask.TheVariants as ask
use Rattle.requests.specs.Conditions.{Condition}
use Rattle.http_fetcher.specs.Fetching.{Fetching, with_condition}
use Rattle.http_fetcher.specs.Meanings.{MayRule}
use Rattle.earlier_runs.specs.declared.earlier.Earlier.{Earlier}
use Rattle.tcp_connect.specs.Connecting.{Connecting}
use Rattle.pacing.specs.Retries.{Retried}
use Rattle.retries.specs.Keeping.{asks_of, lost_of}
use Rattle.retries.specs.Tries.{IsLastOf}
use Rattle.retries.specs.Worth.{is_worth_hops}
use Rattle.run_failures.specs.declared.loss_kind.LossKind.{LossKind}
use Rattle.response_reader.specs.Limits.{Limited}
use Rattle.html_links.specs.declared.rules.LinkRules.{LinkRules}

-- which links of pages it takes, whether it keeps connections, how many may then be open to a server, what it sends, when it asks
-- again, how long an answer may be whose body goes to a keeper, whether files get the times of their pages, what was requested of it, in
-- order, the fetcher that asks once for it, and what it knows of an earlier run's pages, if an index is kept
pub record TcpFetching : Type 0 where
  pub links : LinkRules
  pub keeps : Bool
  pub most : Option ℕ
  pub sends : Option Sending
  pub retries : Retried
  pub limits : Limited
  pub takes_times : Bool
  pub asks : List Ask
  pub single : Fetching Connecting
  pub known : Option Earlier

-- why one that asks once lost its last connection, if it did
abbrev pub last_loss : Fetching Connecting → Option LossKind
last_loss = lost_of (λ connections. connections.lost)

-- from one of these to the other an origin's robots file is requested once, or again if that is worth it, and the rules are by what is
-- received last
abbrev pub AreReceivedRules : Retried → OriginText → Fetching Connecting → Fetching Connecting → RuleSetValue → Type 0
AreReceivedRules retries of old new rules =
    (found : ChainValue) × (rules ≡ rules_of_hops found.hops)
    × IsLastOf asks_of last_loss (λ f found. MayRule f.links of (rules_of_hops found.hops)) (λ found. is_worth_hops retries found.hops) (ask.Rules of) retries.most old new found

-- what a run received of an address without a file, if this one goes on with it
abbrev pub outcome_known : Option Earlier → AddressText → Option Outcome
outcome_known None at = None
outcome_known (Some earlier) at = if earlier.is_asked then None else lookup (bytes_eq at) earlier.answers.answers

-- what a run received of an origin's robots file, if this one goes on with it
abbrev pub chain_known : Option Earlier → OriginText → Option ChainValue
chain_known None of = None
chain_known (Some earlier) of = if earlier.is_asked then None else lookup (bytes_eq of) earlier.answers.chains

-- one that asks once, with this condition
abbrev pub conditioned : {C : Type 0} → Option Condition → Fetching C → Fetching C
conditioned condition fetcher = record fetcher { sends = with_condition condition fetcher.sends }
