use Rattle.std.proofs.Common.{◌∙◌, ap, arith}
use Rattle.response_answer.proofs.DigestLemmas.{if_ok_map}
use Rattle.answer_notes.proofs.HopLemmas.{last_delay}
use Rattle.answer_notes.proofs.hops.Hops.crawl_delay.Goals as goal

pub returns-in-len1-up : goal.returns-in-len1-up
returns-in-len1-up c =
    let some = c.in-len1-up.len_at_least in
    if_ok_map c.received_delay.result _ _ c.received_delay.ensures
    (λ r e. e ∙ last_delay c.args.self.now.hops c.hops.result.now c.index-received.result c.hops.ensures.value (omega (arith, some)))
