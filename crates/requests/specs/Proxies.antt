-- Proxies, and which of them is used for an address (GNU Wget manual, chapter Proxies).
use Rattle.std.specs.Prelude.{◌&&◌, ◌||◌, ◌==◌, ◌-◌, ℕ, Bool, not, List, [], Option, Some, None, codes, length, map, nat_eq, take, if◌then◌else◌}
use Rattle.std.specs.Char.{to_ascii_lowercase}
use Rattle.std.specs.List.{ends_with, list_any, slice_split, starts_with}
use Rattle.address.specs.Address.{OriginText}
use Rattle.address.specs.declared.scheme.Scheme.{Scheme}
use Rattle.address.specs.declared.scheme.Scheme.TheVariants.{Http, Https}
use Rattle.requests.specs.Lines.{Text, trimmed}

-- a proxy: its origin, and the credentials for it
pub record Proxy : Type 0 where
  pub origin : OriginText
  pub login : Option Text

-- the proxies for https and for http, and a list of hosts that are requested without one, in lower case
pub record Proxies : Type 0 where
  pub https : Option Proxy
  pub http : Option Proxy
  pub without : Text

-- no proxy is asked
abbrev pub no_proxies : Proxies
no_proxies = record { https = None; http = None; without = [] }

-- these proxies, and this list
abbrev pub proxies_of : Option Proxy → Option Proxy → Text → Proxies
proxies_of https http without = record { https = https; http = http; without = map to_ascii_lowercase without }

-- ---- hosts without a proxy

-- nothing, or what ends in a dot
abbrev pub ends_label : Text → Bool
ends_label front = length front == 0 || ends_with nat_eq front (codes ".")

-- a suffix begins after this front of a host: between labels, unless the suffix brings the dot
abbrev pub begins_after : Text → Text → Bool
begins_after front suffix = ends_label front || starts_with nat_eq suffix (codes ".")

-- the host is the suffix, or is below it: `example.org` has `example.org` and `a.example.org`, and `.example.org` the second alone
unfoldable pub has_suffix : Text → Text → Bool
has_suffix host suffix =
    not (length suffix == 0) && (ends_with nat_eq host suffix && begins_after (take (length host - length suffix) host) suffix)

abbrev pub is_comma : ℕ → Bool
is_comma byte = byte == 44

-- an element of the list is a suffix of the host
abbrev pub is_without : Text → Text → Bool
is_without list host = list_any (λ element. has_suffix host (trimmed element)) (slice_split is_comma list)

-- ---- which proxy is asked

-- the proxy for a scheme
abbrev pub proxy_of : Proxies → Scheme → Option Proxy
proxy_of proxies Http = proxies.http
proxy_of proxies Https = proxies.https

-- a proxy, unless the host is among those without one
abbrev pub unless_without : Text → Text → Option Proxy → Option Proxy
unless_without list host None = None
unless_without list host (Some proxy) = if is_without list host then None else Some proxy

-- the proxy for a host of this scheme, if one is asked
unfoldable pub proxy_for : Proxies → Scheme → Text → Option Proxy
proxy_for proxies scheme host = unless_without proxies.without host (proxy_of proxies scheme)
