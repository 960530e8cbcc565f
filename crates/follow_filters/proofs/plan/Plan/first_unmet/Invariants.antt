use Rattle.std.proofs.Common.{◌≡◌, drop, not, find}
use Rattle.follow_filters.specs.Rules.{meets}
use Rattle.follow_filters.proofs.plan.Plan.first_unmet.Given as goal

abbrev pub invariant-loop-rule : goal.invariant-loop-rule
invariant-loop-rule l = find (λ r. not (meets r l.self l.page l.kind l.address)) l.rules ≡ find (λ r. not (meets r l.self l.page l.kind l.address)) (drop l.rule-index l.rules)
