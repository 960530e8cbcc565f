-- None of the needles so far is in the text.
use Rattle.std.proofs.Common.{ℕ, ◌<◌}
use Rattle.regex_literal.specs.Find.{OccursAt, needle_at}
use Rattle.expressions.specs.inner.Needles.{needle_lists}
use Rattle.expressions.proofs.needles.has_some.Given as goal

abbrev pub invariant-loop-needle : goal.invariant-loop-needle
invariant-loop-needle l = (n k : ℕ) → n < l.needle-index → OccursAt l.text (needle_at (needle_lists l.needles) n) k → ⊥
