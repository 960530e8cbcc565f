-- The rules are those of the hops that are received last.
use Rattle.retries.proofs.TryLaws.{if_ok_map}
use Rattle.retries.proofs.retrying.rules_of.Goals as goal

pub returns-clause-tries : goal.returns-clause-tries
returns-clause-tries g c = if_ok_map c.rules.result _ _ c.rules.ensures (λ r is. (c.in_ok-hops.hops, is, c.in_ok-hops.ensures.tries))
