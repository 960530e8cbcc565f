use Rattle.std.proofs.Common.{◌≡◌, ◌≤◌, ℕ, length}
use Rattle.follow_filters.specs.Patterns.{parts_within, parts_spelled}
use Rattle.follow_filters.proofs.ClassLemmas.{behind}
use Rattle.follow_filters.proofs.spelling.spelled_parts.Given as goal

abbrev pub invariant-loop-first : goal.invariant-loop-first
invariant-loop-first l = (most : ℕ) × (length l.rest ≤ most) × (behind l.parts.items (parts_within most l.rest) ≡ parts_spelled l.text)

abbrev pub decreases-loop-first : goal.decreases-loop-first
decreases-loop-first l = length l.rest
