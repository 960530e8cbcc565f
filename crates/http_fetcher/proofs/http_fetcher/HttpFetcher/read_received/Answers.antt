-- A fault of the bytes is what was received.
use Rattle.std.proofs.Common.{Err, ap, inr}
use Rattle.answer_notes.specs.Received.{received_body, received_outcome}
use Rattle.response_answer.proofs.DigestLemmas.{if_ok_map}
use Rattle.http_fetcher.proofs.http_fetcher.HttpFetcher.read_received.Goals as goal

pub returns-in-Err-clause-told : goal.returns-in-Err-clause-told
returns-in-Err-clause-told g c =
    let all = c.in-Err.ensures.fault in
    λ at. if_ok_map c.unread.result _ _ c.unread.ensures.told (λ h told.
    let (kind, is, fault_is) = told in
    (all.0, all.1, inr (c.in-Err.fault, kind, is, all.2, (λ device. c.in-Err.ensures.device (ap Err device)), ap (received_outcome c.args.self.now.links at) fault_is, ap received_body fault_is)))
