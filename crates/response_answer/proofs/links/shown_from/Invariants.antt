use Rattle.std.proofs.Common.{◌≡◌, ◌++◌, drop}
use Rattle.response_answer.specs.Digests.{sheet_edges}
use Rattle.response_answer.proofs.links.shown_from.Given as goal

abbrev pub invariant-loop-reference : goal.invariant-loop-reference
invariant-loop-reference l = l.edges.items ++ sheet_edges l.rules l.at (drop l.reference-index l.found) ≡ sheet_edges l.rules l.at l.found
