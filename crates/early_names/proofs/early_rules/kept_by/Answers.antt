use Rattle.std.proofs.Common.{refl}
use Rattle.early_names.proofs.RuleLaws.{keeps_same}
use Rattle.early_names.proofs.early_rules.kept_by.Goals as goal

pub returns : goal.returns
returns c = keeps_same _ c.args.plan.now (c.in_ok-copy.ensures.cases (λ x y same. same)) (c.in_ok-copy-2.ensures.cases (λ x y same. same)) refl
