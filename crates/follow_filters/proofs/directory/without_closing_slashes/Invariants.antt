use Rattle.std.proofs.Common.{◌≡◌, length}
use denote.Text.{Utf8}
use denote.Shadow.{shadow}
use Rattle.follow_filters.specs.Directories.{without_closing_slashes}
use Rattle.follow_filters.proofs.directory.without_closing_slashes.Given as goal

abbrev pub invariant-loop-front : goal.invariant-loop-front
invariant-loop-front l = shadow (Utf8 l.bare) × (without_closing_slashes l.bare ≡ without_closing_slashes l.text)

abbrev pub decreases-loop-front : goal.decreases-loop-front
decreases-loop-front l = length l.bare
