use Rattle.std.proofs.Common.{◌∙◌, ap, arith}
use Rattle.response_answer.proofs.DigestLemmas.{if_ok_map}
use Rattle.answer_notes.proofs.HopLemmas.{last_rules}
use Rattle.answer_notes.proofs.hops.Hops.rules.Goals as goal

pub returns-in-len1-up : goal.returns-in-len1-up
returns-in-len1-up c =
    let some = c.in-len1-up.len_at_least in
    if_ok_map c.rules.result _ _ c.rules.ensures
    (λ r e. e ∙ last_rules c.args.self.now.hops c.as_slice.result.now c.index-received.result (c.as_slice.ensures.value ∙ ap (λ v. v.hops) c.self.view_is) (omega (arith, some)))
