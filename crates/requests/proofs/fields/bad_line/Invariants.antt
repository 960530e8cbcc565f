-- No line so far is bad.
use Rattle.std.proofs.Common.{◌≡◌, length}
use denote.Text.{Utf8}
use denote.Shadow.{shadow}
use Rattle.requests.specs.Fields.{bad_line}
use Rattle.requests.proofs.fields.bad_line.Given as goal

abbrev pub invariant-lines : goal.invariant-lines
invariant-lines l = shadow (Utf8 l.rest) × (bad_line l.rest ≡ bad_line l.lines)

abbrev pub decreases-lines : goal.decreases-lines
decreases-lines l = length l.rest
