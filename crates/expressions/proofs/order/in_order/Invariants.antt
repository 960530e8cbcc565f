-- The states of lower ranks.
use Rattle.expressions.specs.inner.Order.{IsOrderUpTo}
use Rattle.expressions.proofs.order.in_order.Given as goal

abbrev pub invariant-loop-rank : goal.invariant-loop-rank
invariant-loop-rank l = IsOrderUpTo l.nfa.ranks.items l.order.items l.rank 0
