use Rattle.std.proofs.Common.{inr}
use Rattle.http_fetcher.proofs.KeptLemmas.{if_ok_some_map}
use Rattle.http_fetcher.proofs.http_fetcher.HttpFetcher.received_over_kept.Goals as goal

pub returns-in-Ok-clause-told : goal.returns-in-Ok-clause-told
returns-in-Ok-clause-told g c =
    if_ok_some_map c.read_kept.result _ _ (c.read_kept.ensures.told c.args.at.now)
    (λ h told. (c.write.new.wire, c.read_kept.new.wire, inr ((c.in-Ok.ensures.written, c.write.ensures.read), c.read_kept.ensures.written, told)))
