use Rattle.std.proofs.Common.{ap, sym, ◌∙◌}
use Rattle.address.specs.Address.{origin_of}
use Rattle.address.proofs.UrlLemmas.{origin_of-url_text_of}
use Rattle.address.proofs.address.Address.origin.Goals as goal

pub returns-clause-value : goal.returns-clause-value
returns-clause-value c =
    c.slice.ensures.value ∙ sym (origin_of-url_text_of c.url.result.now c.url.ensures.http) ∙ ap origin_of c.url.ensures.text
