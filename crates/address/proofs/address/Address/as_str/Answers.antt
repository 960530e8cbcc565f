use Rattle.std.proofs.Common.{subst}
use Rattle.address.specs.Address.{IsAddress, IsOrigin, origin_of}
use Rattle.address.proofs.AddressLemmas.{IsAddress-url_text_of, IsOrigin-url_text_of}
use Rattle.address.proofs.address.Address.as_str.Goals as goal

pub returns-clause-address : goal.returns-clause-address
returns-clause-address c =
    subst IsAddress c.url.ensures.text (IsAddress-url_text_of c.url.result.now c.url.ensures.http)

pub returns-clause-origin : goal.returns-clause-origin
returns-clause-origin c =
    subst (λ t. IsOrigin (origin_of t)) c.url.ensures.text (IsOrigin-url_text_of c.url.result.now c.url.ensures.http)
