-- What contracts see of what makes connections over TCP, and which server one goes to.
use Rattle.std.specs.Prelude.{ℕ, Option, Some, None}
use Rattle.address.specs.Address.{OriginText}
use Rattle.address.specs.declared.scheme.Scheme.{Scheme}
use Rattle.address.specs.declared.scheme.Scheme.TheVariants.{Http, Https}
use Rattle.requests.specs.Proxies.{Proxy}
use Rattle.run_failures.specs.declared.loss_kind.LossKind.{LossKind}

-- how many connections were requested, how many calls answered an error, how many of these `Failed`, how many connections that were
-- kept were taken, how many may be open to a server, if they are kept, and why the last connection was lost, if it was
pub record Connecting : Type 0 where
  pub made : ℕ
  pub failed : ℕ
  pub refused : ℕ
  pub taken : ℕ
  pub most : Option ℕ
  pub lost : Option LossKind

-- the server of an origin itself, which is connected to without a proxy: there is none of https, since no TLS is spoken here
abbrev pub server_itself : Scheme → OriginText → Option OriginText
server_itself Http of = Some of
server_itself Https of = None

-- the server that is connected to for an origin of a scheme: the proxy, if one is asked, or its own
abbrev pub server_by : Scheme → Option Proxy → OriginText → Option OriginText
server_by scheme None of = server_itself scheme of
server_by scheme (Some proxy) of = Some proxy.origin
