-- A letter is an option that is on or off, or it may ask.
use Rattle.std.proofs.Common.{◌∙◌, ap, rules, sym}
use Rattle.options.specs.Said.{letter_in}
use Rattle.options.proofs.WordLemmas.{fewer, wishes-goes, wishes-is}
use Rattle.options.proofs.asked.wish_in.Goals as goal

pub loop-letters-smaller : goal.loop-letters-smaller
loop-letters-smaller c =
    let some = sym c.is_empty.ensures ∙ c.loop-letters-test.true in
    let is = c.in-Goes.ensures ∙ ap (letter_in c.loop-letters.letters.now) c.option_rows.ensures in
    fewer c.loop-letters.letters.now c.in-Goes._name.now c.in-Goes._value.now c.in-Goes.rest.now some is

pub loop-letters-preserved : goal.loop-letters-preserved
loop-letters-preserved c =
    let before = c.loop-letters in
    let some = sym c.is_empty.ensures ∙ c.loop-letters-test.true in
    let is = c.in-Goes.ensures ∙ ap (letter_in before.letters.now) c.option_rows.ensures in
    record {
      same = sym (wishes-goes before.letters.now c.in-Goes._name.now c.in-Goes._value.now c.in-Goes.rest.now some is) ∙ before.invariant.same;
      text = search rules;
    }

pub returns-in-Is : goal.returns-in-Is
returns-in-Is c =
    let before = c.loop-letters in
    let some = sym c.is_empty.ensures ∙ c.loop-letters-test.true in
    let is = c.in-Is.ensures ∙ ap (letter_in before.letters.now) c.option_rows.ensures in
    c.wish_by.ensures ∙ sym (wishes-is before.letters.now _ some is) ∙ before.invariant.same
