-- There is a digit if the text isn't empty.
use Rattle.std.proofs.Common.{◌∙◌, Bool, length, arith, ap, sym, lt-ltb}
use Rattle.std.specs.Prelude.{◌&&◌}
use Rattle.std.proofs.lemmas.Bool.{eqb-false}
use Rattle.std.specs.Char.{is_ascii_digit}
use Rattle.std.specs.List.{list_all}
use Rattle.retries.proofs.delay.is_digits.Goals as goal

pub returns-then-not-is_empty : goal.returns-then-not-is_empty
returns-then-not-is_empty c =
    c.has_digits.ensures ∙ sym (ap (λ (some : Bool). some && list_all is_ascii_digit c.args.value.now)
    (lt-ltb 0 (length c.args.value.now) (omega (arith, eqb-false _ _ (sym c.is_empty.ensures ∙ c.if-not-is_empty.true)))))
