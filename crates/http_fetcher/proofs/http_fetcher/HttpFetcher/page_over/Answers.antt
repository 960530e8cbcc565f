use Rattle.std.proofs.Common.{Err, ap, inl, inr, refl}
use Rattle.kept_bodies.specs.Bodies.{no_body}
use Rattle.fetcher.specs.declared.fault_kind.FaultKind.TheVariants.{Device}
use Rattle.fetcher.specs.declared.outcome.Outcome.TheVariants.{Fault}
use Rattle.response_answer.proofs.DigestLemmas.{if_ok_map}
use Rattle.http_fetcher.proofs.http_fetcher.HttpFetcher.page_over.Goals as goal

pub returns-in-Ok-clause-told : goal.returns-in-Ok-clause-told
returns-in-Ok-clause-told g c =
    if_ok_map c.read_page.result _ _ c.read_page.ensures.told
    (λ h said. (said.0, said.1, (c.write.new.wire, c.read_page.new.wire, inr ((c.in-Ok.ensures.written, c.write.ensures.read), c.read_page.ensures.written, said.2))))

pub returns-in_ok-fault-in-Err-Device-clause-told : goal.returns-in_ok-fault-in-Err-Device-clause-told
returns-in_ok-fault-in-Err-Device-clause-told g c =
    let received = c.in_ok-fault-in-Err-Device.ensures in
    (record { outcome = Fault Device; body = no_body }, (received.outcome, received.body), (c.write.new.wire, c.write.new.wire, inl (c.in-Err-Device.ensures.device (ap Err c.in-Err-Device.field-0-is), refl, refl)))
