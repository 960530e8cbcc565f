use Rattle.std.proofs.Common.{◌∙◌, sym}
use Rattle.follow_filters.proofs.PlanLemmas.{same_plans}
use Rattle.follow_filters.proofs.plan.Plan.same.Goals as goal

pub returns : goal.returns
returns c =
    let same = same_plans c.args.self.now c.args.other.now in
    (λ yes. same.0 (sym c.eq.ensures ∙ yes), λ equal. c.eq.ensures ∙ same.1 equal)
