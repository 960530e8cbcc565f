-- The answer represents that of the response which the sink took, or the fault of the bytes.
use Rattle.std.proofs.Common.{inl, inr, refl}
use Rattle.std.specs.Prelude.{IfOk}
use Rattle.kept_bodies.specs.Bodies.{no_body}
use Rattle.fetcher.specs.declared.outcome.Outcome.TheVariants.{Fault}
use Rattle.response_answer.specs.Digests.{body_of}
use Rattle.response_answer.proofs.DigestLemmas.{if_ok_map}
use Rattle.response_reader.specs.Limits.{limited}
use Rattle.response_reader.specs.Wire.{OfBytes}
use Rattle.http_fetcher.specs.Fetching.{StandsForOne}
use Rattle.http_fetcher.specs.Meanings.{IsSaidBy}
use Rattle.http_fetcher.proofs.UnaskedLaws.{if_ok_both, may_of_told}
use Rattle.http_fetcher.proofs.unasked.answer_over.Goals as goal

pub returns-in-Ok-clause-told : goal.returns-in-Ok-clause-told
returns-in-Ok-clause-told g c =
    let all = c.in-Ok.ensures.response in
    let (r, rest, is, step) = all.2 in
    let sunk = step c.begin.ensures in
    if_ok_both c.finish.result _ _ _ c.finish.ensures.outcome c.finish.ensures.body (λ a outcome body. (
      record { outcome = a.outcome; body = body_of r.head r.body },
      (refl, body r.head r.body sunk),
      (all.0, all.1, inl (r, (rest, is), outcome r.head r.body sunk, refl)),
    ))

pub returns-in-Ok-clause-may : goal.returns-in-Ok-clause-may
returns-in-Ok-clause-may g c =
    if_ok_map c.finish.result _ _ (returns-in-Ok-clause-told g c) (may_of_told g.K.Keeper.holds (limited c.args.limits) c.args.links c.args.at.now (g.W.Wire.incoming c.args.wire.now))

pub returns-in-Err-clause-told : goal.returns-in-Err-clause-told
returns-in-Err-clause-told g c =
    let all = c.in-Err.ensures.fault in
    if_ok_map c.unread.result _ _ c.unread.ensures (λ a told.
    let (kind, is, outcome, holds) = told in
    (record { outcome = Fault kind; body = no_body }, (outcome, holds), (all.0, all.1, inr (c.in-Err.fault, kind, is, all.2, (refl, refl)))))

pub returns-in-Err-clause-may : goal.returns-in-Err-clause-may
returns-in-Err-clause-may g c =
    if_ok_map c.unread.result _ _ (returns-in-Err-clause-told g c) (may_of_told g.K.Keeper.holds (limited c.args.limits) c.args.links c.args.at.now (g.W.Wire.incoming c.args.wire.now))
