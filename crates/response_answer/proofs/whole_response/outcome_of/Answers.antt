-- A stage that has taken the whole body is that of the response.
use Rattle.std.proofs.Common.{ℕ, List, [], subst}
use Rattle.response_reader.specs.Fields.{HeadParts}
use Rattle.response_reader.specs.Whole.{response_parts}
use Rattle.response_answer.specs.Digesting.{IsStageOf}
use Rattle.response_answer.proofs.DigestLemmas.{stage_has_head, if_ok_map}
use Rattle.response_answer.proofs.whole_response.outcome_of.Goals as goal

pub outcome-requires : goal.outcome-requires
outcome-requires c =
    let head = (response_parts c.args.response.now).head in
    let began = subst (λ (h : HeadParts). IsStageOf h [] c.in_ok-stage.stage) c.head_of.ensures c.in_ok-stage.ensures in
    stage_has_head head _ _ (c.in_ok-take.ensures head [] began)

pub returns : goal.returns
returns c =
    let head = (response_parts c.args.response.now).head in
    let began = subst (λ (h : HeadParts). IsStageOf h [] c.in_ok-stage.stage) c.head_of.ensures c.in_ok-stage.ensures in
    let taken = subst (λ (b : List ℕ). IsStageOf head b c.take.new.self) c.deref.ensures.value (c.in_ok-take.ensures head [] began) in
    if_ok_map c.outcome.result _ _ c.outcome.ensures (λ x says. says head c.args.response.now.body.items taken)
