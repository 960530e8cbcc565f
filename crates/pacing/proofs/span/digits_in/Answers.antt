-- The text has digits alone, so that `parse` sees no sign.
use Rattle.std.proofs.Common.{◌∙◌, arith, ap, sym}
use Rattle.std.specs.Char.{is_ascii_digit}
use Rattle.std.specs.List.{list_all}
use Rattle.std.proofs.lemmas.Bool.{eqb-false}
use Rattle.pacing.proofs.SpanLemmas.{digits_read}
use Rattle.pacing.proofs.span.digits_in.Goals as goal

pub returns : goal.returns
returns c =
    c.ok.ensures.value ∙ digits_read c.args.text.now c.parse.result (omega (arith, eqb-false _ _ (sym c.is_empty.ensures ∙ c.if-is_empty.false))) (ap (list_all is_ascii_digit) (sym c.as_bytes.ensures.value) ∙ sym c.has_digits.ensures ∙ c.if-not-has_digits.false) c.parse.ensures.value.0
