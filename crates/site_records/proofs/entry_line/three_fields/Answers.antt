-- A fourth field comes after the third.
use Rattle.std.proofs.Common.{◌==◌}
use Rattle.site_inputs.proofs.Splits.{slice_split-first_part}
use Rattle.site_records.proofs.entry_line.three_fields.Goals as goal

pub returns-in_default-Some-first_field-2 : goal.returns-in_default-Some-first_field-2
returns-in_default-Some-first_field-2 c =
    let one = c.in_default-Some.is-1 in
    let two = c.in_default-Some-first_field.is-1 in
    let three = c.in_default-Some-first_field-2.is-1 in
    let first = rw one at c.first_field.ensures in
    let second = rw (two, one) at c.first_field-2.ensures in
    let third = rw (three, two) at c.first_field-3.ensures in
    let (_, _, fourth) = slice_split-first_part (λ b. b == 32) c.in_default-Some-first_field-2.field-0-1.now in
    rw (first, second, third, fourth) (λ a b c e. cc)
