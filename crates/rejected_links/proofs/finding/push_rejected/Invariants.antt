-- The links have gained the rejected ones of the edges so far.
use Rattle.std.proofs.Common.{◌≡◌, ◌++◌, map, take}
use Rattle.std.specs.List.{filter_map}
use Rattle.fetcher.specs.Outcomes.{edges}
use Rattle.rejected_links.specs.Rejections.{found_addresses}
use Rattle.rejected_links.specs.inner.Found.{rejected_edge}
use Rattle.rejected_links.specs.inner.Links.{seen}
use Rattle.rejected_links.proofs.finding.push_rejected.Given as goal

abbrev pub invariant-loop-k : goal.invariant-loop-k
invariant-loop-k l = map seen l.links.items ≡ map seen l.initial.links.items ++ filter_map (rejected_edge l.plan (found_addresses l.entries) l.page) (take l.k (edges l.outcome))
