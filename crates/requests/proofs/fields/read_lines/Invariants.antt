use Rattle.std.proofs.Common.{◌≡◌, length}
use denote.Text.{Utf8}
use denote.Shadow.{shadow}
use Rattle.requests.specs.Fields.{read_lines}
use Rattle.requests.proofs.LineLemmas.{behind}
use Rattle.requests.proofs.fields.read_lines.Given as goal

abbrev pub invariant-loop-first : goal.invariant-loop-first
invariant-loop-first l = shadow (Utf8 l.rest) × (behind l.fields.items (read_lines l.rest) ≡ read_lines l.lines)

abbrev pub decreases-loop-first : goal.decreases-loop-first
decreases-loop-first l = length l.rest
