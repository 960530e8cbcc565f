-- The states of this rank so far.
use Rattle.expressions.specs.inner.Order.{IsOrderUpTo}
use Rattle.expressions.proofs.order.push_rank.Given as goal

abbrev pub invariant-loop-state : goal.invariant-loop-state
invariant-loop-state l = IsOrderUpTo l.nfa.ranks.items l.order.items l.rank l.state
