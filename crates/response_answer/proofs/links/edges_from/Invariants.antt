use Rattle.std.proofs.Common.{◌≡◌, ◌++◌, drop}
use Rattle.response_answer.specs.Digests.{edges_from}
use Rattle.response_answer.proofs.links.edges_from.Given as goal

abbrev pub invariant-loop-link : goal.invariant-loop-link
invariant-loop-link l = l.edges.items ++ edges_from l.rules l.base (drop l.link-index l.links) ≡ edges_from l.rules l.base l.links
