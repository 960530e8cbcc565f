-- A binary search by the address finds its place.
use Rattle.std.proofs.Common.{rules, ℕ, Option, subst, sym}
use Rattle.std.specs.Cmp.Lexicographic.{slice_cmp}
use Rattle.std.specs.Ordering.{nat_cmp}
use Rattle.std.proofs.lemmas.Fn.{always_returns_same}
use Rattle.frontier_core.specs.Readers.{Recorded}
use Rattle.harvest.specs.Entries.{IsPlaceOf}
use Rattle.harvest.proofs.PlaceLaws.{place_found}
use Rattle.harvest.proofs.gathering.place_of.Goals as goal

pub returns : goal.returns
returns c =
    let found = c.binary_search_by.ensures.position (λ (x : Recorded). slice_cmp nat_cmp x.0 c.args.address.now) (always_returns_same _ _ _ (λ a r f' k. search rules)) in
    subst (λ (place : Option ℕ). IsPlaceOf c.args.records.now c.args.address.now place) (sym c.ok.ensures.value) (place_found _ _ _ c.requires c.binary_search_by.ensures.bound found)
