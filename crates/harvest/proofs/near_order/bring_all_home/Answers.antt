-- One exchange after others.
use Rattle.std.proofs.lemmas.List.Sorted.{IsPermutation-trans}
use Rattle.harvest.proofs.near_order.bring_all_home.Goals as goal

pub loop-preserved : goal.loop-preserved
loop-preserved g c = IsPermutation-trans _ _ _ c.loop.invariant c.bring_home.ensures
