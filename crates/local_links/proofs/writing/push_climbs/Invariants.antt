-- What was put down, with what is left, is the whole.
use Rattle.std.proofs.Common.{◌≡◌, ◌++◌, length}
use Rattle.std.specs.Prelude.{string_bytes}
use Rattle.local_links.specs.inner.Climbs.{climbs}
use Rattle.local_links.proofs.writing.push_climbs.Given as goal

abbrev pub invariant-loop-left : goal.invariant-loop-left
invariant-loop-left l = string_bytes l.text ++ climbs l.left ≡ string_bytes l.fn.text ++ climbs l.name

abbrev pub decreases-loop-left : goal.decreases-loop-left
decreases-loop-left l = length l.left
