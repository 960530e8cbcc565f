-- What was added, and the lines of the rest.
use Rattle.std.proofs.Common.{◌≡◌, ◌++◌, [], length}
use Rattle.mirror_index.specs.Indexes.{lines}
use Rattle.mirror_index.proofs.reading.push_lines.Given as goal

abbrev pub invariant-entries : goal.invariant-entries
invariant-entries l = l.text.items ++ lines l.rest [] ≡ l.fn.text.items ++ lines l.entries []

abbrev pub decreases-entries : goal.decreases-entries
decreases-entries l = length l.rest
