use Rattle.std.proofs.Common.{◌∙◌, ap, sym}
use Rattle.std.specs.Prelude.{◌==◌}
use Rattle.response_reader.specs.Response.{ResponseParts}
use Rattle.http_fetcher.proofs.GivenUpLemmas.{given_up_by_status}
use Rattle.http_fetcher.proofs.http_fetcher.exchange.has_given_up.Goals as goal

pub returns-in-Whole : goal.returns-in-Whole
returns-in-Whole c = λ links at. rw c.in-Whole.is (ap (λ (r : ResponseParts). r.head.status == 408) c.response.ensures.value ∙ sym (given_up_by_status links at c.in-Whole.given))
