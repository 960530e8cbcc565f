-- The lines so far, and those that are left.
use Rattle.std.proofs.Common.{◌≡◌, ◌++◌, length, string_bytes}
use Rattle.requests.specs.Fields.{lines_text}
use Rattle.requests.proofs.fields.lines_text.Given as goal

abbrev pub invariant-loop-first : goal.invariant-loop-first
invariant-loop-first l = string_bytes l.text ++ lines_text l.secret l.rest ≡ lines_text l.secret l.fields

abbrev pub decreases-loop-first : goal.decreases-loop-first
decreases-loop-first l = length l.rest
