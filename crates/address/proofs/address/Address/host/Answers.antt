use Rattle.std.proofs.Common.{ap, sym, ◌∙◌}
use Rattle.address.specs.Address.{host_of}
use Rattle.address.proofs.UrlLemmas.{host_of-url_text_of}
use Rattle.address.proofs.address.Address.host.Goals as goal

pub returns-clause-value : goal.returns-clause-value
returns-clause-value c =
    c.host.ensures.value ∙ sym (host_of-url_text_of c.url.result.now c.url.ensures.http) ∙ ap host_of c.url.ensures.text
