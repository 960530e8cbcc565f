-- What was read is before the rest.
use Rattle.std.proofs.Common.{length}
use Rattle.mirror_upkeep.specs.inner.Reading.{HasRead}
use Rattle.mirror_upkeep.proofs.reading.lines_in.Given as goal

abbrev pub invariant-lines : goal.invariant-lines
invariant-lines l = HasRead l.text l.read l.rest

abbrev pub decreases-lines : goal.decreases-lines
decreases-lines l = length l.rest
