use Rattle.std.proofs.Common.{◌≡◌, length}
use denote.Text.{Utf8}
use denote.Shadow.{shadow}
use Rattle.follow_filters.specs.Directories.{read_names}
use Rattle.follow_filters.proofs.ClassLemmas.{behind}
use Rattle.follow_filters.proofs.directory.read_names.Given as goal

abbrev pub invariant-loop-names : goal.invariant-loop-names
invariant-loop-names l = shadow (Utf8 l.rest) × (behind l.names.items (read_names l.rest) ≡ read_names l.text)

abbrev pub decreases-loop-names : goal.decreases-loop-names
decreases-loop-names l = length l.rest
