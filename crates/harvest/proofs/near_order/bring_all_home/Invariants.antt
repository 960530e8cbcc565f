-- What was there is there.
use Rattle.std.proofs.Common.{IsPermutation}
use Rattle.harvest.proofs.near_order.bring_all_home.Given as goal

abbrev pub invariant-loop : goal.invariant-loop
invariant-loop g l = IsPermutation l.initial.things l.things
