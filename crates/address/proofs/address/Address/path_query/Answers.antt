use Rattle.std.proofs.Common.{ap, sym, ◌∙◌}
use Rattle.address.specs.Address.{path_query_of}
use Rattle.address.proofs.UrlLemmas.{path_query_of-url_text_of}
use Rattle.address.proofs.address.Address.path_query.Goals as goal

pub returns-clause-value : goal.returns-clause-value
returns-clause-value c =
    c.slice.ensures.value ∙ sym (path_query_of-url_text_of c.url.result.now c.url.ensures.http) ∙ ap path_query_of c.url.ensures.text
