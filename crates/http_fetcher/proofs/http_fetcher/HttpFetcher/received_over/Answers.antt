use Rattle.std.proofs.Common.{inr}
use Rattle.response_answer.proofs.DigestLemmas.{if_ok_map}
use Rattle.http_fetcher.proofs.http_fetcher.HttpFetcher.received_over.Goals as goal

pub returns-in-Ok-clause-told : goal.returns-in-Ok-clause-told
returns-in-Ok-clause-told g c =
    if_ok_map c.read_received.result _ _ (c.read_received.ensures.told c.args.at.now)
    (λ h told. (c.write.new.wire, c.read_received.new.wire, inr ((c.in-Ok.ensures.written, c.write.ensures.read), c.read_received.ensures.written, told)))
