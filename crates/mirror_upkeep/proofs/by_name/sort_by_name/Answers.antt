-- A sort by names.
use Rattle.std.proofs.Common.{rules}
use Rattle.std.proofs.lemmas.List.Sorted.{answers_always, ranks_by}
use Rattle.std.proofs.lemmas.Result.{on_ok_weaker}
use Rattle.std.specs.Cmp.Lexicographic.{nat_list_cmp_total}
use Rattle.mirror_upkeep.specs.inner.NamedPlaces.{is_named_before}
use Rattle.mirror_upkeep.proofs.ByNameLaws.{Named}
use Rattle.mirror_upkeep.proofs.by_name.sort_by_name.Goals as goal

pub returns-clause-sorted : goal.returns-clause-sorted
returns-clause-sorted c =
    on_ok_weaker c.sort_by.result (λ sorted. sorted is_named_before (ranks_by nat_list_cmp_total (λ (n : Named). n.0.now)) (answers_always _ _ _ (λ f a r f' k. search rules))) c.sort_by.ensures.sorted
