use Rattle.std.proofs.Common.{ℕ, List, ◌++◌, take}
use Rattle.robots_rules.proofs.AccessLemmas.{AnswersFor}
use Rattle.robots_rules.proofs.rule.rules_allow_front.Given as goal

abbrev pub invariant-loop-rule : goal.invariant-loop-rule
invariant-loop-rule l = (rest : List ℕ) → AnswersFor (l.front ++ rest) (take l.rule-index l.rules) l.reached l.is_allowed
