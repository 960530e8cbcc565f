-- The forms and the option's value are set one after another.
use Rattle.std.proofs.Common.{◌∙◌, ap}
use Rattle.clap.specs.Words.{rule_of}
use Rattle.options.specs.Line.{letter_of, with_letter}
use Rattle.options.specs.inner.Line.{with_long_form}
use Rattle.options.proofs.line.option.Goals as goal

pub returns : goal.returns
returns c = record {
  rule =
      c.with_long.ensures.rule
      ∙ ap (λ name. with_long_form name (rule_of c.with_letter-arg.result)) c.long_form.ensures
      ∙ ap (with_long_form _)
      (c.with_letter-arg.ensures.rule ∙ ap (λ letter. with_letter letter (rule_of c.of_kind.result)) c.letter.ensures ∙ ap (with_letter (letter_of c.args.short.now)) c.of_kind.ensures.rule);
  own = c.with_long.ensures.own ∙ c.with_letter-arg.ensures.own ∙ c.of_kind.ensures.own;
}
