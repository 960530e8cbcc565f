-- The text has gained the lines so far.
use Rattle.std.proofs.Common.{◌≡◌, ◌++◌, string_bytes, take}
use Rattle.std.specs.List.{flat_map}
use Rattle.moved_starts.specs.Moves.{move_line}
use Rattle.moved_starts.proofs.moves.push_moves.Given as goal

abbrev pub invariant-loop-recorded : goal.invariant-loop-recorded
invariant-loop-recorded l = string_bytes l.text ≡ string_bytes l.initial.text ++ flat_map (move_line l.plan l.records) (take l.recorded-index l.records)
