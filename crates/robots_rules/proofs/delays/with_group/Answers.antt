use Rattle.std.proofs.Common.{◌∙◌, true, false, arith}
use Rattle.robots_rules.proofs.DelayLemmas.{tally_end}
use Rattle.robots_rules.proofs.delays.with_group.Goals as goal

pub returns-then-tally : goal.returns-then-tally
returns-then-tally c = λ names. let t = c.args.tally in c.max.ensures ∙ tally_end names t.longest t.here t.is_ours t.is_behind_rule true c.if-tally.true

pub returns-else-tally : goal.returns-else-tally
returns-else-tally c = λ names. let t = c.args.tally in omega arith ∙ tally_end names t.longest t.here t.is_ours t.is_behind_rule false c.if-tally.false
