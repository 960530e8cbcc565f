-- A stable sort by falling addresses.
use Rattle.std.proofs.Common.{rules}
use Rattle.std.proofs.lemmas.List.Sorted.{IsStrictWeakOrder-flip, answers_always, ranks_by}
use Rattle.std.proofs.lemmas.Result.{on_ok_weaker}
use Rattle.std.specs.Cmp.Lexicographic.{slice_cmp, nat_list_cmp_total}
use Rattle.std.specs.Ordering.{nat_cmp, is_lt}
use Rattle.mirror_index.specs.Entries.{Entry}
use Rattle.mirror_upkeep.proofs.LatestLaws.{falls, latest-stable}
use Rattle.mirror_upkeep.proofs.latest.sort_falling.Goals as goal

pub returns-clause-falling : goal.returns-clause-falling
returns-clause-falling c =
    let key : Entry → _ = λ (e : Entry). e.address in
    let order = IsStrictWeakOrder-flip (λ (x y : Entry). is_lt (slice_cmp nat_cmp (key x) (key y))) (ranks_by nat_list_cmp_total key) in
    on_ok_weaker c.sort_by.result (λ sorted. sorted falls order (answers_always _ _ _ (λ f a r f' k. search rules))) c.sort_by.ensures.sorted

pub returns-clause-latest : goal.returns-clause-latest
returns-clause-latest c at =
    let key : Entry → _ = λ (e : Entry). e.address in
    let order = IsStrictWeakOrder-flip (λ (x y : Entry). is_lt (slice_cmp nat_cmp (key x) (key y))) (ranks_by nat_list_cmp_total key) in
    latest-stable _ _ (c.sort_by.ensures.stable falls order (answers_always _ _ _ (λ f a r f' k. search rules))) at
