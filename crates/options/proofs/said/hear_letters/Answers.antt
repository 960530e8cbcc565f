-- A letter is an option that is on, or it ends the word.
use Rattle.std.proofs.Common.{◌∙◌, ◌++◌, ◌∷◌, [], List, ap, append_assoc, map, rules, sym}
use Rattle.std.proofs.lemmas.List.{map_push}
use Rattle.std.proofs.lemmas.Result.{IfOk-weaker}
use Rattle.clap.specs.Walk.{Text}
use Rattle.options.specs.declared.said.Saying.{Saying}
use Rattle.options.specs.Said.{Hearing, heard_letters, letter_in}
use Rattle.options.specs.inner.Said.{saying_in}
use Rattle.options.proofs.WordLemmas.{fewer, heard-goes, heard-is}
use Rattle.options.proofs.said.hear_letters.Goals as goal

pub loop-letters-smaller : goal.loop-letters-smaller
loop-letters-smaller c =
    let some = sym c.is_empty.ensures ∙ c.loop-letters-test.true in
    let is = c.in-Goes.ensures ∙ ap (letter_in c.loop-letters.letters.now) c.option_rows.ensures in
    fewer c.loop-letters.letters.now c.in-Goes.name.now c.in-Goes.value.now c.in-Goes.rest.now some is

pub loop-letters-preserved : goal.loop-letters-preserved
loop-letters-preserved c =
    let before = c.loop-letters in
    let some = sym c.is_empty.ensures ∙ c.loop-letters-test.true in
    let is = c.in-Goes.ensures ∙ ap (letter_in before.letters.now) c.option_rows.ensures in
    let goes = heard-goes c.args.word.now before.letters.now c.in-Goes.name.now c.in-Goes.value.now c.in-Goes.rest.now some is in
    let more = (heard_letters c.args.word.now c.in-Goes.rest.now).said in
    record {
      said =
          ap (λ xs. map saying_in xs ++ more) c.in_ok-push-in-Goes.ensures.items
          ∙ ap (λ (xs : List (Saying Text)). xs ++ more) (map_push saying_in _ _)
          ∙ append_assoc (map saying_in before.said.items) (_ ∷ []) more
          ∙ ap (λ (h : Hearing). map saying_in before.said.items ++ h.said) (sym goes)
          ∙ before.invariant.said;
      state = ap (λ (h : Hearing). h.state) (sym goes) ∙ before.invariant.state;
      text = search rules;
    }

pub returns-in-Is-clause-said : goal.returns-in-Is-clause-said
returns-in-Is-clause-said c =
    let before = c.loop-letters in
    let some = sym c.is_empty.ensures ∙ c.loop-letters-test.true in
    let ends = heard-is c.args.word.now before.letters.now _ some (c.in-Is.ensures ∙ ap (letter_in before.letters.now) c.option_rows.ensures) in
    IfOk-weaker c.hear_as.result _ _ (λ next says. says ∙ ap (λ (h : Hearing). map saying_in before.said.items ++ h.said) (sym ends) ∙ before.invariant.said) c.hear_as.ensures.said

pub returns-in-Is-clause-state : goal.returns-in-Is-clause-state
returns-in-Is-clause-state c =
    let before = c.loop-letters in
    let some = sym c.is_empty.ensures ∙ c.loop-letters-test.true in
    let ends = heard-is c.args.word.now before.letters.now _ some (c.in-Is.ensures ∙ ap (letter_in before.letters.now) c.option_rows.ensures) in
    IfOk-weaker c.hear_as.result _ _ (λ next says. says ∙ ap (λ (h : Hearing). h.state) (sym ends) ∙ before.invariant.state) c.hear_as.ensures.state
