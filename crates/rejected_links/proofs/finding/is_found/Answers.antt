-- A binary search by the address finds it exactly if it is among them.
use Rattle.std.proofs.Common.{rules, ◌∙◌}
use Rattle.std.specs.Cmp.Lexicographic.{slice_cmp}
use Rattle.std.specs.Ordering.{nat_cmp}
use Rattle.std.proofs.lemmas.Fn.{always_returns_same}
use Rattle.harvest.specs.declared.entry.HarvestEntry.{HarvestEntry}
use Rattle.rejected_links.proofs.FoundLaws.{found_is}
use Rattle.rejected_links.proofs.finding.is_found.Goals as goal

pub returns : goal.returns
returns c =
    let found = c.binary_search_by.ensures.position (λ (x : HarvestEntry). slice_cmp nat_cmp x.address c.args.address.now) (always_returns_same _ _ _ (λ a r f' k. search rules)) in
    c.is_ok.ensures.value ∙ found_is c.args.entries.now c.args.address.now _ c.requires c.binary_search_by.ensures.bound found
