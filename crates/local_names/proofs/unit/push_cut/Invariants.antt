use Rattle.std.proofs.Common.{◌≡◌, ◌++◌, map, drop}
use Rattle.std.specs.String.{string_bytes}
use Rattle.local_names.specs.PlainNames.{cut}
use Rattle.local_names.specs.inner.Units.{unit_text}
use Rattle.local_names.proofs.unit.push_cut.Given as goal

abbrev pub invariant-loop-unit : goal.invariant-loop-unit
invariant-loop-unit l = string_bytes l.name ++ cut l.room (map unit_text (drop l.unit-index l.units)) ≡ string_bytes l.fn.name ++ cut l.fn.room (map unit_text l.fn.units)
