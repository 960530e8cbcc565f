use Rattle.std.proofs.Common.{◌≡◌, ◌++◌, map, length}
use Rattle.local_names.specs.PlainNames.{units_of}
use Rattle.local_names.specs.inner.Units.{unit_text}
use Rattle.local_names.proofs.unit.push_units.Given as goal

abbrev pub invariant-pieces : goal.invariant-pieces
invariant-pieces l = map unit_text l.units.items ++ units_of l.rules l.rest ≡ map unit_text l.fn.units.items ++ units_of l.fn.rules l.fn.text

abbrev pub decreases-pieces : goal.decreases-pieces
decreases-pieces l = length l.rest
