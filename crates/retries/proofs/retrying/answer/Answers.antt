-- The answer is made of what is received last.
use Rattle.std.proofs.Common.{◌∙◌, ap}
use Rattle.answer_notes.specs.Received.{received_outcome}
use Rattle.retries.proofs.TryLaws.{if_ok_both}
use Rattle.retries.proofs.retrying.answer.Goals as goal

pub returns-clause-tries : goal.returns-clause-tries
returns-clause-tries g c =
    if_ok_both c.into_answer.result _ _ _ c.into_answer.ensures.outcome c.into_answer.ensures.body
    (λ a o b. (c.in_ok-received.received, o ∙ ap (λ h. received_outcome h c.args.at.now c.in_ok-received.received) (c.link_rules.ensures ∙ c.in_ok-received.ensures.links), b, c.in_ok-received.ensures.tries))
