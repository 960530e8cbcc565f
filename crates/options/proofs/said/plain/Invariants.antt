-- The name of the bytes so far.
use Rattle.std.proofs.Common.{◌≡◌, take}
use Rattle.options.specs.Said.{plain}
use Rattle.options.proofs.said.plain.Given as goal

abbrev pub invariant-loop-byte : goal.invariant-loop-byte
invariant-loop-byte l = l.plain.items ≡ plain (take l.byte-index l.key)
