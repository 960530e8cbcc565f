-- The line, the head, the body and a line feed are the text of the hop.
use Rattle.std.proofs.Common.{◌≡◌, ◌∙◌, ◌+◌, ◌++◌, ◌∷◌, [], ap, length}
use Rattle.std.specs.Prelude.{codes, decimal}
use Rattle.response_reader.specs.Response.{ResponseParts}
use Rattle.response_reader.specs.Whole.{response_parts}
use Rattle.response_reader.specs.Written.{head_text}
use Rattle.site_records.specs.WrittenEntries.{line_of_three}
use Rattle.earlier_answers.proofs.TextLaws.{hop_text, line_fed}
use Rattle.earlier_answers.proofs.chain.push_hop.Goals as goal

pub returns-clause-text : goal.returns-clause-text
returns-clause-text c = λ _.
    let head = c.as_slice-head.result.now in
    let body = c.as_slice-body.result.now in
    let head_is : head ≡ head_text c.args.given.now =
    c.as_slice-head.ensures.value ∙ c.in_ok-push_head.ensures ∙ ap (λ t. t ++ head_text (response_parts c.response-response.result.now)) c.new-made.ensures.items ∙ ap head_text c.response-response.ensures.value in
    let line_is : c.as_bytes.result.now ≡ line_of_three (codes "hop") c.args.at.now (decimal (length head + length body)) ++ 10 ∷ [] =
    c.as_bytes.ensures.value ∙ c.in_ok-line.ensures.ok ∙ line_fed (codes "hop") c.as_str-at.result.now (decimal (length head + length body))
    ∙ ap (λ t. line_of_three (codes "hop") t (decimal (length head + length body)) ++ 10 ∷ []) c.as_str-at.ensures.value in
    hop_text c.args.text.now.items c.as_bytes.result.now head body _ _ _ _ c.args.at.now c.args.given.now line_is head_is
    (c.as_slice-body.ensures.value ∙ ap (λ (r : ResponseParts). r.body) c.response-response.ensures.value)
    c.in_ok-extend_from_slice.ensures.items c.in_ok-extend_from_slice-2.ensures.items c.in_ok-extend_from_slice-3.ensures.items c.in_ok-push.ensures.items
