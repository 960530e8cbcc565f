use Rattle.std.proofs.Common.{◌∙◌, not, sym, ap}
use Rattle.follow_filters.specs.declared.rule.FollowRule.TheVariants as rule
use Rattle.follow_filters.specs.Rules.{meets}
use Rattle.follow_filters.proofs.RulesLemmas.{find-here, find-later, find-end}
use Rattle.follow_filters.proofs.plan.Plan.first_unmet.Goals as goal

pub loop-rule-preserved : goal.loop-rule-preserved
loop-rule-preserved c =
    c.loop-rule.invariant
    ∙ find-later (λ r. not (meets r c.args.self.now c.args.page.now c.args.kind c.args.address.now)) c.args.rules.now c.loop-rule.rule-index rule.RobotsFile c.loop-rule-test.true (ap not (sym c.meets.ensures ∙ c.if-not-meets.false))

pub returns-then-not-meets : goal.returns-then-not-meets
returns-then-not-meets c =
    sym (c.loop-rule.invariant
    ∙ find-here (λ r. not (meets r c.args.self.now c.args.page.now c.args.kind c.args.address.now)) c.args.rules.now c.loop-rule.rule-index rule.RobotsFile c.loop-rule-test.true (ap not (sym c.meets.ensures ∙ c.if-not-meets.true)))

pub returns : goal.returns
returns c =
    sym (c.loop-rule.invariant
    ∙ find-end (λ r. not (meets r c.args.self.now c.args.page.now c.args.kind c.args.address.now)) c.args.rules.now c.loop-rule.rule-index c.loop-rule-test.false)
