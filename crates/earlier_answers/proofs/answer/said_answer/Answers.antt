-- The text of an answer is one of characters with its fields, and they say the answer.
use Rattle.std.proofs.Common.{◌≡◌, ◌∙◌, Some, ap, subst, sym}
use Rattle.address.specs.Address.{IsAddress}
use Rattle.site_inputs.specs.Fields.{fields}
use Rattle.earlier_answers.specs.inner.Fields.{fields_by, status_of}
use Rattle.earlier_answers.proofs.FieldLaws.{is_said, outcome_is, same_fields}
use Rattle.earlier_answers.proofs.answer.said_answer.Goals as goal

pub returns-in_default : goal.returns-in_default
returns-in_default c at outcome is parts own = absurd (c.in_default.ensures.cases.0 (is_said at outcome c.args.text.now is parts own).utf8)

pub returns-in_default-answer_fields : goal.returns-in_default-answer_fields
returns-in_default-answer_fields c at outcome is parts own =
    absurd (c.in_default-answer_fields.ensures (fields_by at outcome) (ap fields c.in-Ok.ensures.cases.0 ∙ (is_said at outcome c.args.text.now is parts own).said))

pub returns-in_default-status_in : goal.returns-in_default-status_in
returns-in_default-status_in c at outcome is parts own =
    let said = is_said at outcome c.args.text.now is parts own in
    let same = same_fields _ _ _ _ (fields_by at outcome) (sym c.in-Some.ensures ∙ ap fields c.in-Ok.ensures.cases.0 ∙ said.said) in
    let got = c.in_default-status_in.ensures (status_of outcome) said.small same.1 in
    absurd (let none = c.in_default-status_in.is in cc)

pub returns-in_default-2 : goal.returns-in_default-2
returns-in_default-2 c at outcome is parts own =
    let said = is_said at outcome c.args.text.now is parts own in
    let same = same_fields _ _ _ _ (fields_by at outcome) (sym c.in-Some.ensures ∙ ap fields c.in-Ok.ensures.cases.0 ∙ said.said) in
    let got = c.in_ok-at.ensures (subst IsAddress (sym same.2) is) in
    absurd (let none = c.in_default-2.is in cc)

pub returns-in-Some-3 : goal.returns-in-Some-3
returns-in-Some-3 c at outcome is parts own =
    let said = is_said at outcome c.args.text.now is parts own in
    let same = same_fields _ _ _ _ (fields_by at outcome) (sym c.in-Some.ensures ∙ ap fields c.in-Ok.ensures.cases.0 ∙ said.said) in
    let status : Some c.in-Some-status_in.status ≡ Some (status_of outcome) = c.in-Some-status_in.ensures (status_of outcome) said.small same.1 in
    let number : c.in-Some-status_in.status ≡ status_of outcome = cc in
    let found = c.in_ok-at.ensures (subst IsAddress (sym same.2) is) in
    let at_is = same.2 in
    let one : c.in-Some-2.at ≡ at = cc (c.in-Some-2.is, found, at_is) in
    let got : c.in_ok-outcome.field-0 ≡ Some outcome = outcome_is outcome _ c.in-Some-status_in.status _ c.in_ok-outcome.field-0 parts said.no_file same.0 number same.3 c.in_ok-outcome.ensures.leaf c.in_ok-outcome.ensures.moved in
    let two : c.in-Some-3.outcome ≡ outcome = cc (c.in-Some-3.is, got) in
    λ i. Some (one i, two i)

pub returns-in-None : goal.returns-in-None
returns-in-None c at outcome is parts own =
    let said = is_said at outcome c.args.text.now is parts own in
    let same = same_fields _ _ _ _ (fields_by at outcome) (sym c.in-Some.ensures ∙ ap fields c.in-Ok.ensures.cases.0 ∙ said.said) in
    let status : Some c.in-Some-status_in.status ≡ Some (status_of outcome) = c.in-Some-status_in.ensures (status_of outcome) said.small same.1 in
    let number : c.in-Some-status_in.status ≡ status_of outcome = cc in
    let got : c.in_ok-outcome.field-0 ≡ Some outcome = outcome_is outcome _ c.in-Some-status_in.status _ c.in_ok-outcome.field-0 parts said.no_file same.0 number same.3 c.in_ok-outcome.ensures.leaf c.in_ok-outcome.ensures.moved in
    absurd (let none = c.in-None.is in cc)
