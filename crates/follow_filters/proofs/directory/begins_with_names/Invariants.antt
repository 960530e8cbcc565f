use Rattle.std.proofs.Common.{◌≡◌, drop}
use denote.Text.{Utf8}
use denote.Shadow.{shadow}
use Rattle.follow_filters.specs.Directories.{begins_with_names, names_in}
use Rattle.follow_filters.proofs.directory.begins_with_names.Given as goal

abbrev pub invariant-loop-name : goal.invariant-loop-name
invariant-loop-name l = shadow (Utf8 l.rest) × (begins_with_names l.ignores_case (drop l.name-index l.names) (names_in l.rest) ≡ begins_with_names l.ignores_case l.names (names_in l.dir))
