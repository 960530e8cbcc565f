use Rattle.std.proofs.Common.{◌∷◌, ap, sym}
use Rattle.robots_rules.specs.Delays.{says}
use Rattle.robots_rules.specs.declared.lines.Line.{Line}
use Rattle.robots_rules.specs.inner.AudienceView.{names_one}
use Rattle.robots_rules.specs.inner.LineView.{line_value}
use Rattle.robots_rules.specs.inner.DelayTally.{longest_from, tallied}
use Rattle.robots_rules.proofs.delays.with_said.Goals as goal

pub returns-in-Rule : goal.returns-in-Rule
unfolding longest_from
returns-in-Rule c = λ rest. sym (ap (λ (l : Line). tallied (names_one c.args.audience) c.args.tally (says (line_value l) ∷ rest)) c.in-Rule.is)
