-- As ordered, or as that of refused words.
use Rattle.std.proofs.Common.{map}
use Rattle.retriever.proofs.TargetLaws.{path_ordered, path_refused, targets_ordered, targets_refused}
use Rattle.retriever.proofs.output_targets.targets_of_words.Goals as goal

pub returns-in-Ok-clause-targets : goal.returns-in-Ok-clause-targets
returns-in-Ok-clause-targets c =
    targets_ordered (map (λ word. word.now) c.args.words.now) c.in-Ok.order c.targets_of_order.result c.in-Ok.ensures.answers c.targets_of_order.ensures.targets

pub returns-in-Ok-clause-rejected : goal.returns-in-Ok-clause-rejected
returns-in-Ok-clause-rejected c =
    path_ordered (map (λ word. word.now) c.args.words.now) c.in-Ok.order c.targets_of_order.result c.in-Ok.ensures.answers c.targets_of_order.ensures.rejected

pub returns-in-Err-clause-targets : goal.returns-in-Err-clause-targets
returns-in-Err-clause-targets c =
    targets_refused (map (λ word. word.now) c.args.words.now) c.in-Err.wrong c.targets_of_refused.result c.in-Err.ensures.answers c.targets_of_refused.ensures.memory c.targets_of_refused.ensures.targets

pub returns-in-Err-clause-rejected : goal.returns-in-Err-clause-rejected
returns-in-Err-clause-rejected c =
    path_refused (map (λ word. word.now) c.args.words.now) c.in-Err.wrong c.targets_of_refused.result c.in-Err.ensures.answers c.targets_of_refused.ensures.memory c.targets_of_refused.ensures.rejected
