use Rattle.std.proofs.Common.{sym, ◌∙◌}
use Rattle.address.proofs.UrlLemmas.{is_https, is_http}
use Rattle.address.proofs.address.Address.scheme.Goals as goal

pub returns-then-eq : goal.returns-then-eq
returns-then-eq c =
    is_https c.url.result.now c.args.self.now _ c.url.ensures.http c.url.ensures.text c.scheme.ensures.value (sym c.eq.ensures ∙ c.if-eq.true)

pub returns-else-eq : goal.returns-else-eq
returns-else-eq c =
    is_http c.url.result.now c.args.self.now _ c.url.ensures.http c.url.ensures.text c.scheme.ensures.value (sym c.eq.ensures ∙ c.if-eq.false)
