use Rattle.std.proofs.Common.{take}
use Rattle.robots_rules.proofs.AccessLemmas.{AnswersFor}
use Rattle.robots_rules.proofs.rule.rules_allow.Given as goal

abbrev pub invariant-loop-rule : goal.invariant-loop-rule
invariant-loop-rule g l = AnswersFor (g.T.NormalPath.octets l.path) (take l.rule-index l.rules) l.longest l.is_allowed
