-- Sorted things ascend, since no two are named alike.
use Rattle.std.proofs.Common.{rules}
use Rattle.std.proofs.lemmas.List.Sorted.{IsPermutation-trans, answers_always, ranks_by}
use Rattle.std.proofs.lemmas.Result.{on_ok_weaker}
use Rattle.std.specs.Cmp.Lexicographic.{slice_cmp, nat_list_cmp_total}
use Rattle.std.specs.Ordering.{nat_cmp, is_lt}
use Rattle.harvest.proofs.OrderLaws.{Apart-from_once, Apart-IsPermutation}
use Rattle.address.proofs.AddressOrderLaws.{IsAscending-from_sorted}
use Rattle.harvest.proofs.named.sort_by_name.Goals as goal

pub returns-clause-permutation : goal.returns-clause-permutation
returns-clause-permutation g c = IsPermutation-trans _ _ _ c.order_nearly.ensures c.sort_by.ensures.permutation

pub returns-clause-ascending : goal.returns-clause-ascending
returns-clause-ascending g c =
    let key = g.T.Named.text_of in
    let moved = IsPermutation-trans _ _ _ c.order_nearly.ensures c.sort_by.ensures.permutation in
    on_ok_weaker c.sort_by.result
    (λ sorted. IsAscending-from_sorted key _
    (sorted (λ x y. is_lt (slice_cmp nat_cmp (key x) (key y))) (ranks_by nat_list_cmp_total key) (answers_always _ _ _ (λ f a r f' k. search rules)))
    (Apart-IsPermutation key _ _ moved (Apart-from_once key _ c.requires)))
    c.sort_by.ensures.sorted
