-- What the search by halves finds.
use Rattle.std.proofs.Common.{rules}
use Rattle.std.specs.Cmp.Lexicographic.{slice_cmp}
use Rattle.std.specs.Ordering.{nat_cmp}
use Rattle.std.proofs.lemmas.Fn.{always_returns_same}
use Rattle.mirror_index.specs.Entries.{Entry}
use Rattle.mirror_index.proofs.IndexLaws.{none_found, this_found}
use Rattle.mirror_index.proofs.index.entry_of.Goals as goal

pub returns-in-Ok : goal.returns-in-Ok
returns-in-Ok c =
    let found = c.in-Ok.ensures.position (λ (x : Entry). slice_cmp nat_cmp x.address c.args.at.now) (always_returns_same _ _ _ (λ a r f' k. search rules)) in
    this_found c.args.entries.now c.args.at.now c.in-Ok.place c.index-entries-place.result c.in-Ok.ensures.bound c.index-entries-place.is found

pub returns-in-Err : goal.returns-in-Err
returns-in-Err c =
    let found = c.in-Err.ensures.position (λ (x : Entry). slice_cmp nat_cmp x.address c.args.at.now) (always_returns_same _ _ _ (λ a r f' k. search rules)) in
    none_found c.args.entries.now c.args.at.now c.in-Err.field-0 c.requires found
