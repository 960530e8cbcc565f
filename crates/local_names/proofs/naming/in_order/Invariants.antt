use Rattle.std.proofs.Common.{◌≡◌, map, take}
use Rattle.std.specs.String.{string_bytes}
use Rattle.local_names.specs.inner.Taken.{lent_text}
use Rattle.local_names.proofs.naming.in_order.Given as goal

abbrev pub invariant-loop-name : goal.invariant-loop-name
invariant-loop-name l = map lent_text l.sorted.items ≡ map string_bytes (take l.name-index l.names)
