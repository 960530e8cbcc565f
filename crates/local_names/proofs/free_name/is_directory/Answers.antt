use Rattle.std.proofs.Common.{rules}
use Rattle.std.proofs.lemmas.Fn.{always_returns_same}
use Rattle.local_names.specs.inner.Taken.{below_order}
use Rattle.local_names.proofs.OrderLaws.{directory_below}
use Rattle.local_names.proofs.free_name.is_directory.Goals as goal

pub returns : goal.returns
returns c =
    let name = c.args.name.now in
    let facts = c.binary_search_by-place.ensures in
    let ends = facts.position (below_order name) (always_returns_same _ _ _ (λ a r f k. search rules)) in
    rw c.is_ok.ensures.value (directory_below c.args.sorted.now name c.binary_search_by-place.result c.requires facts.bound ends)
