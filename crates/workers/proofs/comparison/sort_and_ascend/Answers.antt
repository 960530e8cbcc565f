-- What is in order and occurs once ascends.
use Rattle.std.proofs.Common.{rules}
use Rattle.std.specs.Cmp.Lexicographic.{slice_cmp, nat_list_cmp_total}
use Rattle.std.specs.List.Sorted.{IsSortedBy}
use Rattle.std.specs.Ordering.{nat_cmp, is_lt}
use Rattle.std.proofs.lemmas.Fn.{always_returns_same}
use Rattle.std.proofs.lemmas.List.MinMax.{ranks_by}
use Rattle.workers.proofs.ComparisonLaws.{ascending_sorted, once_ascending}
use Rattle.workers.proofs.comparison.sort_and_ascend.Goals as goal

pub returns-clause-once : goal.returns-clause-once
returns-clause-once g c =
    let key = g.T.Named.text_of in
    let things = c.sort_unstable_by.new.self.items in
    let told = rw c.deref.ensures.value at c.ascend.ensures in
    let sorted : IsSortedBy (λ x y. is_lt (slice_cmp nat_cmp (key x) (key y))) things =
    c.sort_unstable_by.ensures.sorted (λ x y. is_lt (slice_cmp nat_cmp (key x) (key y))) (ranks_by nat_list_cmp_total key) (always_returns_same _ _ _ (λ a r f' k. search rules)) in
    ((λ so. once_ascending _ (told.0 so)), λ once. told.1 (ascending_sorted key things sorted once))
