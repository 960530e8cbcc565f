-- The machine with what is left of the text is the machine before with the whole text.
use Rattle.std.proofs.Common.{◌≡◌, length}
use Rattle.source_sets.specs.Sets.{fed}
use Rattle.source_sets.specs.Reading.{front_of}
use Rattle.source_sets.proofs.machine.SetMachine.feed.Given as goal

abbrev pub invariant-loop-left : goal.invariant-loop-left
invariant-loop-left l = fed (front_of l.self) l.left ≡ fed (front_of l.fn.self) l.text

abbrev pub decreases-loop-left : goal.decreases-loop-left
decreases-loop-left l = length l.left
