use Rattle.std.proofs.Common.{◌≡◌, is_some, length}
use denote.Text.{Utf8}
use denote.Shadow.{shadow}
use Rattle.follow_filters.specs.Directories.{read_names}
use Rattle.follow_filters.proofs.directory.are_spelled.Given as goal

abbrev pub invariant-loop-behind : goal.invariant-loop-behind
invariant-loop-behind l = shadow (Utf8 l.rest) × (is_some (read_names l.rest) ≡ is_some (read_names l.text))

abbrev pub decreases-loop-behind : goal.decreases-loop-behind
decreases-loop-behind l = length l.rest
