-- The text has gained the lines of the origins so far.
use Rattle.std.proofs.Common.{◌≡◌, ◌++◌, string_bytes, take}
use Rattle.std.specs.List.{flat_map}
use Rattle.run_failures.specs.Unasked.{unasked_line}
use Rattle.run_failures.proofs.unasked.push_lines.Given as goal

abbrev pub invariant-loop-of : goal.invariant-loop-of
invariant-loop-of l = string_bytes l.text ≡ string_bytes l.initial.text ++ flat_map unasked_line (take l.of-index l.origins)
