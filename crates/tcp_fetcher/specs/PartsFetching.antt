-- What a site may answer whose bodies are kept in parts.
use Rattle.address.specs.Address.{AddressText, OriginText}
use Rattle.robots_rules.specs.Access.{RuleSetValue}
use Rattle.http_fetcher.specs.Meanings.{MayRule}
use Rattle.fetcher.specs.declared.outcome.Outcome.{Outcome}
use Rattle.part_keeper.specs.Parts.{holds_part}
use Rattle.part_keeper.specs.declared.part.KeptPart.{KeptPart}
use Rattle.response_reader.specs.Limits.{Limited}
use Rattle.retries.specs.Keeping.{StandsForAnswer}
use Rattle.tcp_fetcher.specs.TcpFetching.{TcpFetching}
use Rattle.html_links.specs.declared.rules.LinkRules.{LinkRules}

-- which links of pages are taken, and how long an answer may be
abbrev pub PartsSite : Type 0
PartsSite = LinkRules × Limited

-- what a fetcher asks
abbrev pub parts_site : TcpFetching → PartsSite
parts_site f = (f.links, f.limits)

-- the outcome, with this part, is an answer that the site may give
abbrev pub MayAnswerIn : PartsSite → AddressText → Outcome → KeptPart → Type 0
MayAnswerIn site at x part = StandsForAnswer holds_part site.1 site.0 at (record { outcome = x; body = part })

-- which rules an origin may have: robots files are as long as they may be elsewhere
abbrev pub MayRuleIn : PartsSite → OriginText → RuleSetValue → Type 0
MayRuleIn site of rules = MayRule site.0 of rules
