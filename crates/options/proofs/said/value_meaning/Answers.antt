-- The option is `-e`, `-n` or another.
use Rattle.std.proofs.Common.{◌∙◌, ap, sym}
use Rattle.std.proofs.lemmas.Result.{IfOk-weaker}
use Rattle.options.specs.Said.{negative}
use Rattle.options.proofs.WordLemmas.{value-execute, value-letter, value-other}
use Rattle.options.proofs.said.value_meaning.Goals as goal

pub returns-then-eq : goal.returns-then-eq
returns-then-eq c =
    IfOk-weaker c.command_meaning.result _ _ (λ meaning says. says ∙ sym (value-execute c.args.name.now c.args.value.now (sym c.eq.ensures ∙ c.if-eq.true))) c.command_meaning.ensures

pub returns-then-eq-2 : goal.returns-then-eq-2
returns-then-eq-2 c =
    c.negative.ensures
    ∙ ap (negative c.args.value.now) c.option_rows.ensures
    ∙ sym (value-letter c.args.name.now c.args.value.now (sym c.eq.ensures ∙ c.if-eq.false) (sym c.eq-2.ensures ∙ c.if-eq-2.true))

pub returns : goal.returns
returns c = sym (value-other c.args.name.now c.args.value.now (sym c.eq.ensures ∙ c.if-eq.false) (sym c.eq-2.ensures ∙ c.if-eq-2.false))
