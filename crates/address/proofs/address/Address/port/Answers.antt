use Rattle.std.proofs.Common.{ap, sym, ◌∙◌}
use Rattle.std.specs.Prelude.{unwrap_or}
use Rattle.address.specs.Address.{port_of, scheme_port}
use Rattle.address.proofs.UrlLemmas.{port_of-url_text_of}
use Rattle.address.proofs.address.Address.port.Goals as goal

pub returns : goal.returns
returns c =
    let port = c.port.ensures.value ∙ sym (port_of-url_text_of c.url.result.now c.url.ensures.http) ∙ ap port_of c.url.ensures.text in
    let own = c.port-2.ensures ∙ ap scheme_port c.scheme.ensures in
    c.unwrap_or.ensures ∙ (λ i. unwrap_or (port i) (own i))
