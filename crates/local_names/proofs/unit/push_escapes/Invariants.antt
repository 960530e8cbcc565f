use Rattle.std.proofs.Common.{◌≡◌, ◌++◌, map, take}
use Rattle.percent_encoding.specs.Percent.{percent_encode_byte}
use Rattle.local_names.specs.inner.Units.{unit_text}
use Rattle.local_names.proofs.unit.push_escapes.Given as goal

abbrev pub invariant-loop-byte : goal.invariant-loop-byte
invariant-loop-byte l = map unit_text l.units.items ≡ map unit_text l.fn.units.items ++ map percent_encode_byte (take l.byte-index l.bytes)
