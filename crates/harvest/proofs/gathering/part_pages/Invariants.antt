-- The parts so far are those of the pages so far.
use Rattle.std.proofs.Common.{◌≡◌, ◌++◌, map}
use Rattle.harvest.specs.declared.page.KeptPage.{KeptPage}
use Rattle.harvest.proofs.gathering.part_pages.Given as goal

abbrev pub invariant-loop-page : goal.invariant-loop-page
invariant-loop-page g l = record {
  addresses : l.addresses.items ++ map (λ (page : KeptPage g.row.B.Denot). page.address) l.page-iterator.rest.items ≡ map (λ (page : KeptPage g.row.B.Denot). page.address) l.fn.pages.items;
  bodies : l.bodies.items ++ map (λ (page : KeptPage g.row.B.Denot). page.body) l.page-iterator.rest.items ≡ map (λ (page : KeptPage g.row.B.Denot). page.body) l.fn.pages.items;
}
