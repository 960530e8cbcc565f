use Rattle.std.proofs.Common.{◌≡◌, ◌≤◌, ℕ, is_some, length}
use Rattle.follow_filters.specs.Patterns.{parts_within, parts_spelled}
use Rattle.follow_filters.proofs.spelling.is_spelled.Given as goal

abbrev pub invariant-loop-first : goal.invariant-loop-first
invariant-loop-first l = (most : ℕ) × (length l.rest ≤ most) × (is_some (parts_within most l.rest) ≡ is_some (parts_spelled l.text))

abbrev pub decreases-loop-first : goal.decreases-loop-first
decreases-loop-first l = length l.rest
