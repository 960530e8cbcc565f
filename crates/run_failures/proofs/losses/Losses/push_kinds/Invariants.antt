-- The text has gained the lines of the kinds so far.
use Rattle.std.proofs.Common.{◌≡◌, ◌++◌, string_bytes, take}
use Rattle.std.specs.List.{flat_map}
use Rattle.run_failures.specs.Losses.{line_for}
use Rattle.run_failures.proofs.losses.Losses.push_kinds.Given as goal

abbrev pub invariant-loop-kind : goal.invariant-loop-kind
invariant-loop-kind l = string_bytes l.text ≡ string_bytes l.initial.text ++ flat_map (line_for l.self) (take l.kind-index l.kinds)
