use Rattle.std.proofs.Common.{◌≡◌}
use Rattle.std.specs.Prelude.{ℕ, List, codes}
use Rattle.std.specs.List.{list_any}
use Rattle.std.specs.Str.{str_eq_ignore_ascii_case}
use Rattle.response_reader.specs.Fields.{has_close}
use Rattle.response_reader.specs.inner.Elements.{elements_left}
use Rattle.response_reader.proofs.fields.has_close.Given as goal

abbrev pub invariant-loop-option : goal.invariant-loop-option
invariant-loop-option l = has_close l.value ≡ list_any (λ (e : List ℕ). str_eq_ignore_ascii_case e (codes "close")) (elements_left l.option-iterator)
