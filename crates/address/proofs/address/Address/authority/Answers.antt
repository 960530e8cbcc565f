use Rattle.std.proofs.Common.{ap, sym, ◌∙◌}
use Rattle.address.specs.Address.{authority_of}
use Rattle.address.proofs.UrlLemmas.{authority_of-url_text_of}
use Rattle.address.proofs.address.Address.authority.Goals as goal

pub returns-clause-value : goal.returns-clause-value
returns-clause-value c =
    c.slice.ensures.value ∙ sym (authority_of-url_text_of c.url.result.now c.url.ensures.http) ∙ ap authority_of c.url.ensures.text
