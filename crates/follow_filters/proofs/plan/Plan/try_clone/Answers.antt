use Rattle.std.proofs.Common.{rules}
use Rattle.follow_filters.specs.contracts.plan.Plan.{the_type as plans}
use Rattle.follow_filters.proofs.PlanLemmas.{pairs}
use Rattle.follow_filters.proofs.plan.Plan.try_clone.Goals as goal

-- plans of equal values are equal; the first step is named since with more lists the search ends before it
pub returns : goal.returns
returns c = plans.to_one _ c.args.self.now (search (pairs, c.in_ok-try_clone.ensures, rules) depth 40)
