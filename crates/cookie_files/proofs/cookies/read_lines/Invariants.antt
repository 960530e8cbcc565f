-- The cookies so far and the rest of the lines give what all lines give.
use Rattle.std.proofs.Common.{◌≡◌, [], length}
use Rattle.std.specs.List.{slice_split}
use Rattle.cookie_files.specs.Jars.{is_feed, read_lines}
use Rattle.cookie_files.proofs.cookies.read_lines.Given as goal

abbrev pub invariant-loop-number : goal.invariant-loop-number
invariant-loop-number l = read_lines l.number l.cookies.items (slice_split is_feed l.rest) ≡ read_lines 1 [] (slice_split is_feed l.bytes)

abbrev pub decreases-loop-number : goal.decreases-loop-number
decreases-loop-number l = length l.rest
