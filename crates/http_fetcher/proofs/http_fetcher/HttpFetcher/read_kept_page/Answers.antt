-- The answer represents that of the response which the sink took, or the fault of the bytes.
use Rattle.std.proofs.Common.{◌≡◌, Err, ap, inl, inr, refl, subst}
use Rattle.kept_bodies.specs.Bodies.{no_body}
use Rattle.fetcher.specs.declared.outcome.Outcome.TheVariants.{Fault}
use Rattle.response_answer.specs.Digests.{digest_of, body_of}
use Rattle.http_fetcher.specs.Fetching.{Fetching}
use Rattle.http_fetcher.proofs.http_fetcher.HttpFetcher.read_kept_page.Goals as goal

pub returns-in_ok-answer-in-Ok-Some-clause-told : goal.returns-in_ok-answer-in-Ok-Some-clause-told
returns-in_ok-answer-in-Ok-Some-clause-told g c =
    let all = rw c.in-Ok-Some.field-0-is at c.in-Ok-Some.ensures.response in
    let (r, rest, is, step) = all.2 in
    let sunk = step c.begin.ensures in
    let answer = c.in_ok-answer-in-Ok-Some.answer in
    let says = subst (λ (f : Fetching _). answer.outcome ≡ digest_of f.links c.args.at.now r) c.self.view_is (c.in_ok-answer-in-Ok-Some.ensures.outcome r.head r.body sunk) in (
      record { outcome = answer.outcome; body = body_of r.head r.body },
      (refl, c.in_ok-answer-in-Ok-Some.ensures.body r.head r.body sunk),
      (all.0, all.1, inl (r, (rest, is), says, refl)),
    )

pub returns-in_ok-received-in-Err-clause-told : goal.returns-in_ok-received-in-Err-clause-told
returns-in_ok-received-in-Err-clause-told g c =
    let all = c.in-Err.ensures.fault in
    let (kind, is, outcome, holds) = c.in_ok-received-in-Err.ensures.told in
    (record { outcome = Fault kind; body = no_body }, (outcome, holds), (all.0, all.1, inr (c.in-Err.fault, kind, is, all.2, (λ device. c.in-Err.ensures.device (ap Err device)), refl, refl)))
