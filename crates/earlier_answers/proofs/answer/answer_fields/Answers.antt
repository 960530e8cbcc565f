-- A fifth field comes after the fourth.
use Rattle.std.proofs.Common.{◌==◌}
use Rattle.site_inputs.proofs.Splits.{slice_split-first_part}
use Rattle.earlier_answers.proofs.FieldLaws.{no_five}
use Rattle.earlier_answers.proofs.answer.answer_fields.Goals as goal

pub returns-in_default-Some-first_field-3 : goal.returns-in_default-Some-first_field-3
returns-in_default-Some-first_field-3 c =
    let one = c.in_default-Some.is-1 in
    let two = c.in_default-Some-first_field.is-1 in
    let three = c.in_default-Some-first_field-2.is-1 in
    let four = c.in_default-Some-first_field-3.is-1 in
    let first = rw one at c.first_field.ensures in
    let second = rw (two, one) at c.first_field-2.ensures in
    let third = rw (three, two) at c.first_field-3.ensures in
    let fourth = rw (four, three) at c.first_field-in_default-Some-first_field-2.ensures in
    let (_, _, fifth) = slice_split-first_part (λ b. b == 32) c.in_default-Some-first_field-3.field-0-1.now in
    rw (first, second, third, fourth, fifth) (λ f e. no_five _ _ _ _ _ _ f e)
