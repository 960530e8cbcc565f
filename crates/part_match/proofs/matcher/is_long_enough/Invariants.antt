use Rattle.std.proofs.Common.{◌≡◌, ◌+◌, take, length}
use Rattle.part_match.specs.inner.Cuts.{least_octets}
use Rattle.part_match.proofs.matcher.is_long_enough.Given as goal

abbrev pub invariant-loop-part : goal.invariant-loop-part
invariant-loop-part g l = length (g.T.Text.octets l.rest) + least_octets g.P.Part.is_run (take l.part-index l.parts) ≡ length (g.T.Text.octets l.fn.text)
