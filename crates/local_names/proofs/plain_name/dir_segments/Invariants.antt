use Rattle.std.proofs.Common.{◌≡◌, map}
use Rattle.std.specs.List.{filter}
use Rattle.local_names.specs.PlainNames.{has_bytes}
use Rattle.local_names.specs.inner.Units.{lent_bytes}
use Rattle.local_names.proofs.plain_name.dir_segments.Given as goal

abbrev pub invariant-loop-segment : goal.invariant-loop-segment
invariant-loop-segment l = map lent_bytes l.segments.items ≡ filter has_bytes (map lent_bytes l.yielded)
