use Rattle.std.proofs.Common.{◌∙◌, ◌||◌, ap, sym}
use Rattle.std.proofs.lemmas.Bool.{or_left}
use Rattle.robots_rules.proofs.DelayLemmas.{tally_more, tally_new}
use Rattle.robots_rules.proofs.delays.with_agent.Goals as goal

pub returns-then-tally : goal.returns-then-tally
returns-then-tally c = λ names name rest is. let t = c.args.tally in tally_new names name c.args.is_named t.longest t.here t.is_ours t.is_behind_rule c.with_group.result rest c.if-tally.true is (c.with_group.ensures names)

pub returns-then-is_named : goal.returns-then-is_named
returns-then-is_named c =
    λ names name rest is. let t = c.args.tally in tally_more names name c.args.is_named t.longest t.here t.is_ours t.is_behind_rule c.args.is_named rest c.if-tally.false is (c.if-is_named.true ∙ sym (or_left c.args.is_named t.is_ours c.if-is_named.true))

pub returns-else-is_named : goal.returns-else-is_named
returns-else-is_named c =
    λ names name rest is. let t = c.args.tally in tally_more names name c.args.is_named t.longest t.here t.is_ours t.is_behind_rule t.is_ours rest c.if-tally.false is (ap (λ b. b || t.is_ours) (sym c.if-is_named.false))
