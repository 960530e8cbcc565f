-- The links so far are those of the records so far.
use Rattle.std.proofs.Common.{◌≡◌, map, take}
use Rattle.rejected_links.specs.Rejections.{found_addresses}
use Rattle.rejected_links.specs.inner.Found.{rejected_in}
use Rattle.rejected_links.specs.inner.Links.{seen}
use Rattle.rejected_links.proofs.finding.list_rejected.Given as goal

abbrev pub invariant-loop-page : goal.invariant-loop-page
invariant-loop-page l = map seen l.links.items ≡ rejected_in l.plan (found_addresses l.entries) (take l.page-index l.records)
