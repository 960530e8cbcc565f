-- What is in order and occurs once ascends.
use Rattle.std.proofs.Common.{rules}
use Rattle.std.specs.Cmp.Lexicographic.{slice_cmp, nat_list_cmp_total}
use Rattle.std.specs.List.Sorted.{IsSortedBy}
use Rattle.std.specs.Ordering.{nat_cmp, is_lt}
use Rattle.std.proofs.lemmas.List.Sorted.{IsPermutation-trans, answers_always, ranks_by}
use Rattle.workers.proofs.ComparisonLaws.{ascending_sorted, once_ascending}
use Rattle.workers.proofs.comparison.order_and_ascend.Goals as goal

pub returns-in-Ok-clause-permutation : goal.returns-in-Ok-clause-permutation
returns-in-Ok-clause-permutation g c = IsPermutation-trans _ _ _ c.order_nearly.ensures c.sort_by.ensures.permutation

pub returns-in-Ok-clause-once : goal.returns-in-Ok-clause-once
returns-in-Ok-clause-once g c =
    let key = g.T.Named.text_of in
    let things = c.sort_by.new.self.items in
    let told = rw c.deref.ensures.value at c.ascend.ensures in
    let sorted : IsSortedBy (λ x y. is_lt (slice_cmp nat_cmp (key x) (key y))) things =
    c.in-Ok.ensures.sorted (λ x y. is_lt (slice_cmp nat_cmp (key x) (key y))) (ranks_by nat_list_cmp_total key) (answers_always _ _ _ (λ f a r f' k. search rules)) in
    ((λ so. once_ascending _ (told.0 so)), λ once. told.1 (ascending_sorted key things sorted once))

pub returns-in-Err-clause-permutation : goal.returns-in-Err-clause-permutation
returns-in-Err-clause-permutation g c =
    IsPermutation-trans _ _ _ (IsPermutation-trans _ _ _ c.order_nearly.ensures c.sort_by.ensures.permutation) c.sort_and_ascend.ensures.permutation
