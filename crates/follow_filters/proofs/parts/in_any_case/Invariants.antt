use Rattle.std.proofs.Common.{◌≡◌, ◌++◌, map}
use Rattle.follow_filters.specs.declared.parts.AnyCase.{AnyCase}
use Rattle.follow_filters.proofs.parts.in_any_case.Given as goal

abbrev pub invariant-loop-part : goal.invariant-loop-part
invariant-loop-part l = map (λ (any : AnyCase). any.part) l.any_case.items ++ l.part-iterator.rest.items ≡ l.fn.parts.items
