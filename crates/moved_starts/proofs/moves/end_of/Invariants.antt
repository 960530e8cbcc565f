-- The redirects that are left have the same end.
use Rattle.std.proofs.Common.{◌≡◌}
use Rattle.moved_starts.specs.Moves.{end_of}
use Rattle.moved_starts.proofs.moves.end_of.Given as goal

abbrev pub invariant-loop-left : goal.invariant-loop-left
invariant-loop-left l = end_of l.records l.left l.at ≡ end_of l.records l.initial.left l.initial.at

abbrev pub decreases-loop-left : goal.decreases-loop-left
decreases-loop-left l = l.left
